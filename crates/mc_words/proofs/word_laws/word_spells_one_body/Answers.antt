use Rattle.mc_words.proofs.BodyWords.{one_body}
use Rattle.mc_words.proofs.word_laws.word_spells_one_body.Goals as goal

pub returns : goal.returns
returns c = one_body
