use Rattle.mc_words.proofs.RequestWords.{one_request}
use Rattle.mc_words.proofs.word_laws.words_spell_one_request.Goals as goal

pub returns : goal.returns
returns c = one_request
