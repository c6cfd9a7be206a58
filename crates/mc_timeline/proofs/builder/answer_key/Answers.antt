use Rattle.std.proofs.Common.{refl, sym, ap, ◌∙◌}
use Rattle.std.proofs.{lemmas.Map.Steps.set_value_same, lemmas.Result.on_err_weaker}
use Rattle.std.specs.{Map.set_value, Str.bytes_eq}
use Rattle.mc_timeline.proofs.Replied.{answers_by, on_ok_both}
use Rattle.mc_timeline.proofs.builder.answer_key.Goals as goal

pub returns-in-Some-clause-ok : goal.returns-in-Some-clause-ok
returns-in-Some-clause-ok c =
    let now = c.answer.new.self in
    let held = c.get_mut.follows.holds now in
    let found = c.in-Some.ensures.value in
    on_ok_both c.answer.result
    (answers_by c.args.key.now c.args.client c.args.shown c.args.keys.now.entries (c.get_mut.follows.lender now).entries c.in-Some.state.now now found
    (λ q. (held.3 (rw (← found) refl)).0 q) held.2) c.answer.ensures.opener c.answer.ensures.shown

pub returns-in-Some-clause-err : goal.returns-in-Some-clause-err
returns-in-Some-clause-err c =
    let entries = c.args.keys.now.entries in
    let held = c.get_mut.follows.holds c.answer.new.self in
    on_err_weaker c.answer.result (λ same.
    held.0 ∙ ap (set_value (bytes_eq c.args.key.now) entries) same
    ∙ set_value_same (bytes_eq c.args.key.now) entries c.in-Some.state.now (sym c.in-Some.ensures.value)) c.answer.ensures.err
