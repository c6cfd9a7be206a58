use Rattle.mc_words.proofs.WholeWords.{reply-whole}
use Rattle.mc_words.proofs.word_laws.words_of_a_reply_are_whole.Goals as goal

pub returns : goal.returns
returns c = reply-whole
