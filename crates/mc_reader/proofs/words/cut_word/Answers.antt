use Rattle.mc_reader.proofs.Searches.{words_cut}
use Rattle.mc_reader.proofs.words.cut_word.Goals as goal

pub returns-clause-words : goal.returns-clause-words
returns-clause-words c = rw (c.split_at.ensures.front, c.split_at.ensures.back, c.first_word_len.ensures.len) (words_cut c.args.text.now)
