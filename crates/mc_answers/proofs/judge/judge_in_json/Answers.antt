use Rattle.mc_answers.proofs.Forms.{from-found}
use Rattle.mc_answers.proofs.judge.judge_in_json.Goals as goal

pub returns : goal.returns
returns c = from-found _ c.judge_in-found.result c.judge_in-found.ensures c.found_in_json.result c.found_in_json.ensures
