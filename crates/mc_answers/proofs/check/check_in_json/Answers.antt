use Rattle.mc_answers.proofs.Forms.{from-found}
use Rattle.mc_answers.proofs.check.check_in_json.Goals as goal

pub returns : goal.returns
returns c = from-found _ c.check-found.result c.check-found.ensures c.found_in_json.result c.found_in_json.ensures
