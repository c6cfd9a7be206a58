use Rattle.mc_words.proofs.WholeWords.{request-whole}
use Rattle.mc_words.proofs.word_laws.words_of_a_request_are_whole.Goals as goal

pub returns : goal.returns
returns c = request-whole
