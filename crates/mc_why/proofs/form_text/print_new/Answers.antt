use Rattle.std.proofs.Common.{append_assoc, ap, codes, ◌∙◌, ◌++◌, List, None, ℕ}
use Rattle.std.proofs.lemmas.Result.{on_ok_weaker}
use Rattle.mc_protocol.specs.declared.reply.Reply.{Reply}
use Rattle.mc_protocol.specs.declared.reply.Reply.TheVariants as replies
use Rattle.mc_words.specs.Words.{join_words, reply_words}
use Rattle.mc_why.proofs.form_text.print_new.Goals as goal

pub returns : goal.returns
returns c =
    let out = c.args.out.now.items in
    let tail = codes " (a new number)" in
    let words = join_words (reply_words (replies.Hit c.args.flags c.args.body.now None)) in
    on_ok_weaker c.print_mark.result
    (λ e. e ∙ ap (λ (l : List ℕ). l ++ tail)
    (c.in_ok-print_reply_words.ensures.ok ∙ ap (λ (r : Reply). out ++ join_words (reply_words r)) c.in_ok-hit.ensures)
    ∙ append_assoc out words tail)
    c.print_mark.ensures
