-- Where a section exceeds its budget, by what a place costs.
use Rattle.std.proofs.Common.{◌≡◌, ◌⊎◌, inl, inr, ◌↔◌, ℕ, ◌+◌, ◌<◌, Option, Some, None, IfSome, IfNone, []}
use Rattle.std.proofs.Common.{◌∷◌, ◌++◌, length, refl, ap, subst, arith}
use Rattle.std.proofs.lemmas.Option.{slice_get_within}
use Rattle.mc_protocol.specs.Sections as sections
use Rattle.mc_protocol.specs.declared.actor.Actor.{Actor}
use Rattle.mc_protocol.specs.declared.actor.Actor.TheVariants as actor
use Rattle.mc_script.specs.declared.step.Template.{Template}
use Rattle.mc_code.specs.{Calls.SendsAt, Calls.calls_of, Code.Code, Code.section_of, Code.instructions_in}
use Rattle.mc_code.specs.declared.instr.Instr.TheVariants as instr
use Rattle.mc_sound.specs.{Costs.cost_along, Costs.bound_of, declared.measure.Measure.Measure, declared.refusal_kind.RefusalKind.RefusalKind, Faults.MayExceed}
use Rattle.mc_sound.specs.{Faults.IsFault, Faults.HasNone}
use Rattle.mc_flow.specs.CostTables.{IsOpened}
use Rattle.mc_verify.specs.{FaultGroups.kind_of, Lowest.FindsLowest, Lowest.IsLowest}
use Rattle.mc_sound.specs.declared.measure.Measure.TheVariants as measure
use Rattle.mc_flow.proofs.SectionCosts.{IsCostAt}

-- ---- budgets

fault_is : (c : Code) (measure : Measure) (actor : Actor) (place : ℕ)
    → MayExceed c measure actor place ↔ IsFault c (kind_of measure) actor place
fault_is c measure.Requests actor place = (λ h. h, λ h. h)
fault_is c measure.Bytes actor place = (λ h. h, λ h. h)

-- a section exceeds its budget at a place exactly where the cost at the place does
pub exceeds_at : (c : Code) (measure : Measure) (actor : Actor) (place bound most : ℕ)
    → bound ≡ bound_of measure (section_of c actor).budget
    → IsCostAt c actor measure place most → (bound < most) ↔ IsFault c (kind_of measure) actor place
exceeds_at c measure actor place bound most bound_is exact = (
  λ over. (fault_is c measure actor place).0 (to_exceed ((exact (bound + 1)).0 (omega (arith, over)))),
  λ fault. from ((fault_is c measure actor place).1 fault),
)
  where
    to_exceed : (bound + 1 ≡ 0) ⊎ IsOpened c actor measure place (bound + 1) → MayExceed c measure actor place
    to_exceed (inl zero) = absurd (omega (arith, zero))
    to_exceed (inr (calls, (edges, t, leads, sends, is), few)) =
        let cost_is = ap (cost_along c measure) is in
        record { edges = edges; t = t; leads = leads; sends = sends; exceeds = omega (arith, few, bound_is, cost_is) }

    from : MayExceed c measure actor place → bound < most
    from may =
        let calls = calls_of may.edges ++ may.t ∷ [] in
        let few = (exact (cost_along c measure calls)).1 (inr (calls, (may.edges, may.t, may.leads, may.sends, refl), omega arith)) in
        let over = may.exceeds in
        omega (arith, few, over, bound_is)

-- it does so at one of its places
pub exceeds_inside : (c : Code) (measure : Measure) (actor : Actor) (place : ℕ) → IsFault c (kind_of measure) actor place
    → place < length (instructions_in c actor)
exceeds_inside c measure actor place fault = inside ((fault_is c measure actor place).1 fault).sends
  where
    inside : {t : Template} → SendsAt c actor place t → place < length (instructions_in c actor)
    inside (n, next, at, named) = slice_get_within (instructions_in c actor) place (instr.Send n next) at

-- ---- all sections

-- what is found in each section by itself
pub found_in_sections : (c : Code) (kind : RefusalKind) (p a b : Option ℕ) → IfSome p (IsLowest c kind actor.P)
    → IfNone p (HasNone c kind actor.P)
    → IfSome a (IsLowest c kind actor.A) → IfNone a (HasNone c kind actor.A) → IfSome b (IsLowest c kind actor.B)
    → IfNone b (HasNone c kind actor.B)
    → FindsLowest c kind (λ actor answer. answer ≡ sections.section_of (record { p = p; a = a; b = b }) actor)
found_in_sections c kind p a b some_p none_p some_a none_a some_b none_b = record { some = some; none = none }
  where
    lowest : (whose : Actor) (answer : Option ℕ) (place : ℕ) → IfSome answer (IsLowest c kind whose) → Some place ≡ answer
        → IsLowest c kind whose place
    lowest whose None place found is = absurd (cc)
    lowest whose (Some other) place found is = let same : other ≡ place = cc in subst (IsLowest c kind whose) same found

    nowhere : (whose : Actor) (answer : Option ℕ) → IfNone answer (HasNone c kind whose) → None ≡ answer → HasNone c kind whose
    nowhere whose None found is = found
    nowhere whose (Some other) found is = absurd (cc)

    some : (whose : Actor) (place : ℕ) → Some place ≡ sections.section_of (record { p = p; a = a; b = b }) whose
        → IsLowest c kind whose place
    some actor.P place is = lowest actor.P p place some_p is
    some actor.A place is = lowest actor.A a place some_a is
    some actor.B place is = lowest actor.B b place some_b is

    none : (whose : Actor) → None ≡ sections.section_of (record { p = p; a = a; b = b }) whose → HasNone c kind whose
    none actor.P is = nowhere actor.P p none_p is
    none actor.A is = nowhere actor.A a none_a is
    none actor.B is = nowhere actor.B b none_b is

-- the same by answers that say as much
pub found_by : (c : Code) (kind : RefusalKind) (A B : Actor → Option ℕ → Type 0) → FindsLowest c kind A
    → ((actor : Actor) (answer : Option ℕ) → B actor answer → A actor answer) → FindsLowest c kind B
found_by c kind A B found says = record {
  some = λ actor place answer. found.some actor place (says actor (Some place) answer);
  none = λ actor answer. found.none actor (says actor None answer);
}
