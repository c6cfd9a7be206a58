use Rattle.std.proofs.Common.{sym, ◌∙◌}
use Rattle.mc_reader.proofs.Searches.{first_place}
use Rattle.mc_reader.proofs.ask_words.word_len.Goals as goal

pub returns-clause-len : goal.returns-clause-len
returns-clause-len c = c.unwrap_or.ensures ∙ sym (first_place 32 c.args.text.now c.memchr.result c.memchr.ensures)
