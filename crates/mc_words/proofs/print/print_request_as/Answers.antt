-- The fields that the verb has hold values of their types, so the words spell the request.
use Rattle.std.proofs.Common.{sym, ◌∙◌, arith}
use Rattle.std.proofs.lemmas.Result.{on_ok_weaker}
use Rattle.mc_protocol.specs.declared.request.Fields.TheVariants as fields
use Rattle.mc_words.proofs.PrintedWords.{printed_shape}
use Rattle.mc_words.proofs.print.print_request_as.Goals as goal

pub returns-in-Item-clause-spells : goal.returns-in-Item-clause-spells
returns-in-Item-clause-spells c =
    let shape = sym c.fields.ensures ∙ c.in-Item.is in
    on_ok_weaker c.append_item.result (λ fits. printed_shape fields.Item c.args.request.now shape (fits.0, rw c.as_slice-body.ensures at fits.1))
    c.append_item.ensures.fits

pub returns-in-Swap-clause-spells : goal.returns-in-Swap-clause-spells
returns-in-Swap-clause-spells c =
    let shape = sym c.fields.ensures ∙ c.in-Swap.is in
    on_ok_weaker c.append_item-in-Swap.result
    (λ fits. printed_shape fields.Swap c.args.request.now shape (fits.0, rw c.as_slice-body.ensures at fits.1, fits.2)) c.append_item-in-Swap.ensures.fits

pub returns-in-Amount-clause-spells : goal.returns-in-Amount-clause-spells
returns-in-Amount-clause-spells c =
    let shape = sym c.fields.ensures ∙ c.in-Amount.is in
    on_ok_weaker c.append_all-in-Amount.result (λ appended. printed_shape fields.Amount c.args.request.now shape (omega arith))
    c.append_all-in-Amount.ensures.ok
