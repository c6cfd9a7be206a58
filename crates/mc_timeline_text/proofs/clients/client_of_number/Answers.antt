use Rattle.std.proofs.Common.{◌≡◌, ◌≤◌, ap, arith, decimal, rules, sym, ◌∙◌}
use Rattle.mc_timeline.specs.declared.limits.TheConstants.{CLIENTS_LIMIT}
use Rattle.mc_timeline_text.proofs.ClientLines.{client_is}
use Rattle.mc_timeline_text.proofs.clients.client_of_number.Goals as goal

pub returns-then-not-is_word-clause-none : goal.returns-then-not-is_word-clause-none
returns-then-not-is_word-clause-none c = λ client small e.
    let same = client_is c.args.word.now c.args.number client small e c.requires in
    let text : c.as_bytes.result.now ≡ decimal c.args.number = search rules in
    let is = c.is_word.ensures.same.1 (text ∙ ap decimal same ∙ sym e) in
    cc (is, c.if-not-is_word.true)

pub returns-then-number-clause-none : goal.returns-then-number-clause-none
returns-then-number-clause-none c = λ client small e.
    let same = client_is c.args.word.now c.args.number client small e c.requires in
    let large : CLIENTS_LIMIT ≤ c.args.number = search rules in
    absurd (omega (arith, large, same, small))
