use Rattle.mc_reader.proofs.ItemLemmas.{one_word, two_words, three_words, six_words}
use Rattle.mc_reader.proofs.item.item_words.Goals as goal

pub returns-in_err-name : goal.returns-in_err-name
returns-in_err-name c = rw c.from_residual.ensures (one_word _ _ _ c.cut_word.ensures.words c.in_err-name.ensures)

pub returns-in_err-flags : goal.returns-in_err-flags
returns-in_err-flags c =
    rw c.from_residual-in_err-flags.ensures (two_words _ _ _ _ _ c.cut_word.ensures.words c.in_ok-name.ensures c.in_err-flags.ensures)

pub returns-in_err-body_len : goal.returns-in_err-body_len
returns-in_err-body_len c =
    rw c.from_residual-in_err-body_len.ensures
    (three_words _ _ _ _ _ _ _ c.cut_word.ensures.words c.in_ok-name.ensures c.in_ok-flags.ensures c.in_err-body_len.ensures)

pub returns-in-Some-next_word : goal.returns-in-Some-next_word
returns-in-Some-next_word c =
    six_words _ _ _ _ _ _ _ _ _ _ _ _ _ c.cut_word.ensures.words c.in_ok-name.ensures c.in_ok-flags.ensures c.in_ok-body_len.ensures
    c.in-Some.ensures c.in-Some-next_word.ensures
