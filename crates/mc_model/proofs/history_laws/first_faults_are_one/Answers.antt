use Rattle.mc_model.proofs.FirstFaults.{one_first_fault}
use Rattle.mc_model.proofs.history_laws.first_faults_are_one.Goals as goal

pub returns : goal.returns
returns c = one_first_fault
