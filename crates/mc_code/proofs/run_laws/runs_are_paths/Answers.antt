use Rattle.mc_code.proofs.RunLemmas.{run_path}
use Rattle.mc_code.proofs.run_laws.runs_are_paths.Goals as goal

pub returns : goal.returns
returns c templates section p q st st' answers run = run_path run
