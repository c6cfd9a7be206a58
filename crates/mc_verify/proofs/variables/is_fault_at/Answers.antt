use Rattle.std.proofs.Common.{◌≡◌, ℕ, Some, [], slice_index_or, ap, sym, ◌∙◌}
use Rattle.mc_verify.proofs.FaultsAt.{fault_of_send, fault_of_bind}
use Rattle.mc_sound.proofs.Structured.{structured_variable}
use Rattle.mc_flow.specs.{Kinds.may_have, RunKinds.may_stand}
use Rattle.mc_verify.proofs.variables.is_fault_at.Goals as goal

pub returns-in-Send : goal.returns-in-Send
returns-in-Send c =
    let at = c.requires.at ∙ ap Some c.in-Send.is in
    let tell = fault_of_send c.args.code.now c.args.kind c.args.actor c.args.place c.in-Send.template c.in-Send.next c.declared_template.result.now
    c.args.tables.now c.requires.kind c.requires.tables c.declared_template.ensures.declared at c.declared_template.ensures.at in
    (λ found. tell.0 (c.sends_wrong_number.ensures.0 found), λ fault. c.sends_wrong_number.ensures.1 (tell.1 fault))

pub returns-in-Bind : goal.returns-in-Bind
returns-in-Bind c =
    let code = c.args.code.now in
    let tables = c.args.tables.now in
    let variable = c.in-Bind.variable in
    let place = c.args.place in
    let at = c.requires.at ∙ ap Some c.in-Bind.is in
    let declared = structured_variable code c.args.actor c.requires.structured place variable at in
    let tell = fault_of_bind code c.args.kind c.args.actor place variable tables c.requires.kind c.requires.tables declared at in
    let same : (own : ℕ) → may_have c.at.result own 0 ≡ may_stand (slice_index_or tables variable []) place own 0 =
    λ own. c.at.ensures own 0 ∙ ap (λ n. may_stand (slice_index_or tables n []) place own 0) c.from.ensures in (
      λ found.
          let nothing = c.binds_nothing.ensures.0 found in
          tell.0 (record { own = nothing.1.0; of_binds = nothing.0; may = sym (same nothing.1.0) ∙ nothing.1.1 }),
      λ fault. let wrong = tell.1 fault in c.binds_nothing.ensures.1 (wrong.of_binds, (wrong.own, same wrong.own ∙ wrong.may)),
    )
