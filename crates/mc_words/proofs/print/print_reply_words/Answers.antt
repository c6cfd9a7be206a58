-- What the reply carries has values of its types, so the words spell it.
use Rattle.std.proofs.{Common.arith, lemmas.Result.on_ok_weaker}
use Rattle.mc_words.proofs.PrintedWords.{printed_hit, printed_number}
use Rattle.mc_words.proofs.print.print_reply_words.Goals as goal

pub returns-in-Hit-clause-spells : goal.returns-in-Hit-clause-spells
returns-in-Hit-clause-spells c =
    let hit = c.in-Hit in
    on_ok_weaker c.append_item.result (λ fits. printed_hit c.args.reply.now hit.flags hit.body hit.cas hit.is (rw c.as_slice.ensures at fits))
    c.append_item.ensures.fits

pub returns-in-Number-clause-spells : goal.returns-in-Number-clause-spells
returns-in-Number-clause-spells c =
    on_ok_weaker c.append_all.result (λ appended short. printed_number c.args.reply.now c.in-Number.number c.in-Number.is (omega arith)) c.append_all.ensures.ok
