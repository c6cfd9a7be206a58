-- What spreads of costs along the paths of a section is what these cost.
use Rattle.std.proofs.Common.{◌≡◌, ◌↔◌, inl, inr, ⊎_elim, ℕ, ◌+◌, ◌-◌, ◌*◌, ◌^◌, ◌<◌, ◌≤◌, min, true, Option, Some, List, [], ◌∷◌, ◌++◌}
use Rattle.std.proofs.Common.{length, slice_get, refl, ap, sym, subst, ◌∙◌, arith}
use Rattle.std.proofs.{lemmas.Bool.leb-true, lemmas.Bool.le-leb, lemmas.List.map-append}
use Rattle.mc_protocol.specs.{declared.actor.Actor.Actor, declared.reply.Class.Class}
use Rattle.mc_script.specs.declared.step.Template.{Template}
use Rattle.mc_code.specs.{Calls.LeadsIn, Calls.calls_of, Code.Code, Code.IsCode, Code.instructions_in, Paths.Edge, Paths.stays, declared.instr.Instr.Instr}
use Rattle.mc_code.proofs.PathLemmas.{path_slides, path_sends, IsKept}
use Rattle.mc_sound.specs.{Costs.cost_by, Costs.cost_of, Costs.cost_along, Structure.IsStructured, declared.cost.Cost.Cost, declared.measure.Measure.Measure}
use Rattle.mc_flow.specs.{CostTables.is_within, CostTables.HasCost, CostTables.IsReached, CostTables.IsRaised, CostTables.PathCost, CostTables.IsOf}
use Rattle.mc_flow.specs.{CostTables.CostsSlid, CostTables.CostsSent, CostTables.no_cost, CostTables.CostsLead, CostTables.IsCostTable, Flows.Adds}
use Rattle.mc_flow.specs.{Flows.BeginsWith, Flows.begins, Flows.moves, Flows.Moves}
use Rattle.mc_sound.specs.declared.measure.Measure.TheVariants as measure
use Rattle.mc_flow.proofs.{CostPaths.cost_append, CostPaths.cost_after, CostPaths.holds_along, CostPaths.sends_template, CostPaths.has_less}
use Rattle.mc_flow.proofs.{CallCosts.cost_small, FlowPaths.leads_hold}
use Rattle.mc_sound.proofs.Structured.{structured_slides, structured_sends, structured_some}

-- ---- what is added to an entry

pub slide_adds : (i : Instr) (from old : Option Cost) (cost new : Cost) → from ≡ Some cost → IsRaised old cost new
    → Adds IsOf from (CostsSlid i) old (Some new)
slide_adds i from old cost new is raised fact = (
  λ has. ⊎_elim (λ h. inl h) (λ h. inr (fact, subst (λ from. IsOf from fact) (sym is) h, refl)) ((raised fact.0 fact.1).0 has),
  λ h. (raised fact.0 fact.1).1
      (⊎_elim (λ h. inl h) (λ (before, had, same). inr (subst (λ from. IsOf from fact) is (subst (IsOf from) (sym same) had))) h),
)

-- what becomes of a cost by a call is no more than both together
pub sent_bounds : (c : Code) (t : Template) (class : Class) (from : Option Cost) (cost weight sum : Cost) → from ≡ Some cost
    → ((measure : Measure) → cost_by measure weight ≡ cost_of c measure t)
    → ((measure : Measure) → cost_by measure sum ≡ min (cost_by measure cost + cost_by measure weight) (2 ^ 32 - 1))
    → (before after : PathCost) → IsOf from before → CostsSent c t class before after → after.1 ≤ cost_by after.0 sum
sent_bounds c t class from cost weight sum is weighs together before (measure, less) had (same, few, fits) =
    let here = subst (λ measure. is_within measure before.1 (Some cost) ≡ true) (sym same) (subst (λ from. IsOf from before) is had) in
    let below = leb-true before.1 (cost_by measure cost) here in
    let few_here = subst (λ measure. less ≤ before.1 + cost_of c measure t) (sym same) few in
    let weighs_here = weighs measure in
    let sum_is = together measure in
    omega (arith, below, few_here, weighs_here, sum_is, fits)

pub send_adds : (c : Code) (t : Template) (class : Class) (from old : Option Cost) (cost weight sum new : Cost) → from ≡ Some cost
    → ((measure : Measure) → cost_by measure weight ≡ cost_of c measure t)
    → ((measure : Measure) → cost_by measure sum ≡ min (cost_by measure cost + cost_by measure weight) (2 ^ 32 - 1))
    → IsRaised old sum new → Adds IsOf from (CostsSent c t class) old (Some new)
send_adds c t class from old cost weight sum new is weighs together raised (measure, less) = (
  λ has. ⊎_elim (λ h. inl h) (λ h. inr (led h)) ((raised measure less).0 has),
  λ h. (raised measure less).1 (⊎_elim (λ h. inl h) (λ (before, had, becomes).
      inr (le-leb less (cost_by measure sum) (sent_bounds c t class from cost weight sum is weighs together before (measure, less) had becomes))) h),
)
  where
    own : is_within measure (cost_by measure cost) (Some cost) ≡ true
    own = le-leb (cost_by measure cost) (cost_by measure cost) (omega arith)

    led : is_within measure less (Some sum) ≡ true
        → (before : PathCost) × IsOf from before × CostsSent c t class before (measure, less)
    led h =
        let few = leb-true less (cost_by measure sum) h in
        let weighs_here = weighs measure in
        let sum_is = together measure in (
          (measure, cost_by measure cost),
          subst (λ from. IsOf from (measure, cost_by measure cost)) (sym is) own,
          (refl, omega (arith, few, weighs_here, sum_is), omega (arith, few, sum_is)),
        )

-- ---- the whole table

pub zero_by : (measure : Measure) → cost_by measure no_cost ≡ 0
zero_by measure.Requests = refl
zero_by measure.Bytes = refl

pub begun_at_none : (measure : Measure) (cost : ℕ) → is_within measure cost (Some no_cost) ≡ true → cost ≡ 0
begun_at_none measure cost within =
    let few = leb-true cost (cost_by measure no_cost) within in
    let none = zero_by measure in
    omega (arith, few, none)

pub costs_spread : (c : Code) (actor : Actor) (table : List (Option Cost)) → IsCode c → IsStructured c actor
    → length table ≡ length (instructions_in c actor)
    → ((place : ℕ) (cost : PathCost) → HasCost cost.0 table place cost.1 ↔ CostsLead c actor place cost) → IsCostTable c actor table
costs_spread c actor table is structured long spread = record {
  places = long;
  spread = spread;
  exact = λ measure place cost. (
    λ has. reached ((spread place (measure, cost)).0 has),
    λ (edges, path, within).
        let led = leads measure place edges path in
        has_less measure table place (cost_along c measure (calls_of edges)) cost within
        ((spread place (measure, cost_along c measure (calls_of edges))).1 led.0),
  );
}
  where
    section : List Instr
    section = instructions_in c actor

    H : ℕ → PathCost → Type 0
    H place cost = IsReached c actor cost.0 place cost.1

    begun : (p : ℕ) (cost : PathCost) → BeginsWith IsOf (Some no_cost) p cost → H p cost
    begun p cost (here, few) =
        let none = begun_at_none cost.0 cost.1 few in
        ([], subst (λ p. LeadsIn c actor [] p) (sym here) stays, omega (arith, none))

    kept : (i : Instr) (p q : ℕ) (before after : PathCost) → slice_get section p ≡ Some i → Moves CostsSlid (CostsSent c) c.templates i p before q after
        → H p before → H q after
    kept i p q before after at (inl (leads, same)) (edges, path, within) =
        subst (H q) (sym same) (edges, path_slides path i at leads, within)
    kept i p q before after at (inr (t, class, leads, (same, few, fits))) (edges, path, within) =
        let calls = map-append (λ (edge : Edge). edge.0) edges ((t, class) ∷ []) in
        let sum = ap (cost_along c before.0) calls ∙ cost_append c before.0 (calls_of edges) (t ∷ []) in
        subst (λ measure. IsReached c actor measure q after.1) (sym same)
        (edges ++ (t, class) ∷ [], path_sends path i t class at leads, omega (arith, few, within, sum))

    reached : {place : ℕ} {cost : PathCost} → CostsLead c actor place cost → H place cost
    reached led = leads_hold CostsSlid (CostsSent c) c.templates section (BeginsWith IsOf (Some no_cost)) H begun kept led

    -- what a path costs is led to, and little, since the path leads on with each call
    AreLed : Measure → ℕ → ℕ → Type 0
    AreLed measure p cost = CostsLead c actor p (measure, cost) × (cost ≤ 1000 * p) × (p < length section)

    kept_led : (measure : Measure) → IsKept c.templates section (cost_after c measure) (AreLed measure)
    kept_led measure = record {
      slid = λ i p q cost at leads (led, small, inside).
          let ahead = structured_slides c actor structured i p q at leads in
          (moves i at (inl (leads, refl)) led, omega (arith, ahead.0, small), ahead.1);
      sent = λ i p q cost t class at leads (led, small, inside).
          let ahead = structured_sends c actor structured i p q t class at leads in
          let named = sends_template c i t class q leads in
          let weight = cost_small c measure named.0 t is named.1 in
          let few = (is.sections actor).few in (
            moves i at (inr (t, class, leads, (refl, omega arith, omega (arith, small, inside, weight, few)))) led,
            omega (arith, ahead.0, small, weight),
            ahead.1,
          );
    }

    leads : (measure : Measure) (place : ℕ) (edges : List Edge) → LeadsIn c actor edges place
        → AreLed measure place (cost_along c measure (calls_of edges))
    leads measure place edges path =
        holds_along c actor measure (AreLed measure) (kept_led measure)
        (begins (refl, le-leb 0 (cost_by measure no_cost) (omega arith)), omega arith, structured_some c actor structured) place edges path
