use Rattle.mc_code.proofs.Shown.{numbers_were_shown}
use Rattle.mc_code.proofs.number_laws.numbers_were_shown.Goals as goal

pub returns : goal.returns
returns c = numbers_were_shown
