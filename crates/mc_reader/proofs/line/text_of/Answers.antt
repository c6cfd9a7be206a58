use Rattle.mc_reader.proofs.TextLemmas.{text_ended, text_unended}
use Rattle.mc_reader.proofs.line.text_of.Goals as goal

pub returns-in-true : goal.returns-in-true
returns-in-true c = text_ended c.args.line.now c.in-len1-up.len_at_least c.in-true.is

pub returns-in-false : goal.returns-in-false
returns-in-false c = text_unended c.args.line.now c.in-len1-up.len_at_least c.in-false.is
