use Rattle.std.proofs.Common.{◌≡◌, ◌<◌, Some, [], length, slice_get, slice_index_or, ap, sym, ◌∙◌, arith}
use Rattle.std.proofs.lemmas.Option.{slice_get-get_or}
use Rattle.mc_code.specs.declared.instr.Instr.TheVariants as instr
use Rattle.mc_verify.proofs.FaultsAt.{fault_inside}
use Rattle.mc_verify.proofs.variables.lowest_fault.Goals as goal

pub is_fault_at-requires-clause-structured : goal.is_fault_at-requires-clause-structured
is_fault_at-requires-clause-structured c = c.requires.structured c.args.actor

pub is_fault_at-requires-clause-at : goal.is_fault_at-requires-clause-at
is_fault_at-requires-clause-at c =
    let section = c.instructions-section.result.now in
    let same : c.from.result ≡ c.from-in-places.result = omega (arith, c.from.ensures, c.from-in-places.ensures) in
    let inside : c.from.result < length section = omega (arith, c.from.ensures) in
    ap (λ l. slice_get l c.from.result) (sym c.instructions-section.ensures.instructions)
    ∙ slice_get-get_or section c.from.result (instr.Send 0 []) inside
    ∙ ap (λ n. Some (slice_index_or section n (instr.Send 0 []))) same

pub returns-clause-none : goal.returns-clause-none
returns-clause-none c = λ place fault.
    let within = fault_inside c.args.code.now c.args.kind c.args.actor place c.requires.kind (c.requires.structured c.args.actor) fault in
    let long = ap length c.instructions-section.ensures.instructions in
    c.places.invariant place (omega (arith, within, long)) fault
