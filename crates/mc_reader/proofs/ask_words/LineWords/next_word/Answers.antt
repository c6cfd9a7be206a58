use Rattle.std.proofs.Common.{rules, ◌<◌, length, sym, ◌∙◌}
use Rattle.mc_reader.proofs.AskWordCuts.{next_word_cut}
use Rattle.mc_reader.proofs.ask_words.LineWords.next_word.Goals as goal

pub returns : goal.returns
returns c =
    let rest = c.without_spaces-rest in
    let some : 0 < length rest.result.now = search rules in
    rw (← c.self.view_is, c.split_at.ensures.front, c.split_at.ensures.back)
    (sym rest.ensures.words ∙ next_word_cut rest.result.now c.word_len.result rest.ensures.front some c.word_len.ensures.len)
