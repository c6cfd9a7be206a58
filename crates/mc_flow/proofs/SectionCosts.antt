-- What a section costs at most, by its table, and where it exceeds its budget.
use Rattle.std.proofs.Common.{◌≡◌, ◌⊎◌, inl, inr, ◌↔◌, ℕ, ◌+◌, ◌-◌, ◌^◌, ◌<◌, ◌≤◌, min, max, Option, Some, None, List, []}
use Rattle.std.proofs.Common.{◌∷◌, ◌++◌, length, slice_get, slice_index_or, refl, ap, sym, subst, ◌∙◌, ⊎_elim, arith}
use Rattle.std.proofs.{lemmas.Bool.cases_lt, lemmas.Option.same_Some, lemmas.Option.slice_get_within}
use Rattle.mc_protocol.specs.declared.actor.Actor.{Actor}
use Rattle.mc_script.specs.declared.step.Template.{Template}
use Rattle.mc_code.specs.{Calls.SendsAt, Calls.calls_of, Code.Code, Code.IsCode, Code.instructions_in}
use Rattle.mc_code.specs.declared.instr.Instr.TheVariants as instr
use Rattle.mc_sound.specs.{Costs.cost_of, Costs.cost_along, Costs.MayCost, Costs.IsGreatestCost, Costs.cost_by, Structure.IsStructured, declared.cost.Cost.Cost}
use Rattle.mc_sound.specs.{declared.measure.Measure.Measure}
use Rattle.mc_flow.specs.CostTables.{IsReached, IsCostTable, IsOpened}
use Rattle.mc_flow.proofs.{CallCosts.cost_small, CostPaths.cost_append, CostPaths.none_has, CostPaths.some_has, CostPaths.some_bounds, CostPaths.entry_small}

-- ---- the cost at a place

-- a cost is at most this exactly where some path to a send at the place costs it or more, with the send
abbrev pub IsCostAt : Code → Actor → Measure → ℕ → ℕ → Type 0
IsCostAt c actor measure place most = (cost : ℕ) → (cost ≤ most) ↔ ((cost ≡ 0) ⊎ IsOpened c actor measure place cost)

-- what the calls of a path to a send cost
opened_cost : (c : Code) (measure : Measure) (calls before : List Template) (t : Template) → calls ≡ before ++ t ∷ []
    → cost_along c measure calls ≡ cost_along c measure before + cost_of c measure t
opened_cost c measure calls before t is =
    let sum = ap (cost_along c measure) is ∙ cost_append c measure before (t ∷ []) in omega (arith, sum)

-- the template of a send is that of its index
one_template : (c : Code) (actor : Actor) (place n : ℕ) (next : List ℕ) (t u : Template)
    → slice_get (instructions_in c actor) place ≡ Some (instr.Send n next)
    → slice_get c.templates n ≡ Some t → SendsAt c actor place u → u ≡ t
one_template c actor place n next t u at named (m, more, there, other) =
    let same : instr.Send n next ≡ instr.Send m more = same_Some _ _ (sym at ∙ there) in
    let number : n ≡ m = cc in
    same_Some u t (sym other ∙ ap (slice_get c.templates) (sym number) ∙ named)

pub send_reached : (c : Code) (actor : Actor) (measure : Measure) (table : List (Option Cost)) (place n : ℕ) (most weight sum : Cost)
    (next : List ℕ) (t : Template) → IsCode c → IsStructured c actor → IsCostTable c actor table
    → slice_get (instructions_in c actor) place ≡ Some (instr.Send n next)
    → slice_get c.templates n ≡ Some t → cost_by measure weight ≡ cost_of c measure t
    → cost_by measure sum ≡ min (cost_by measure most + cost_by measure weight) (2 ^ 32 - 1)
    → slice_index_or table place None ≡ Some most → IsCostAt c actor measure place (cost_by measure sum)
send_reached c actor measure table place n most weight sum next t is structured is_table at named weighs together some cost = (to, from)
  where
    sum_is : cost_by measure sum ≡ cost_by measure most + cost_of c measure t
    sum_is =
        let few = entry_small c actor measure table place most is structured is_table some in
        let small = cost_small c measure n t is named in
        omega (arith, together, weighs, few, small)

    add : IsReached c actor measure place (cost_by measure most) → cost ≤ cost_by measure sum → IsOpened c actor measure place cost
    add (edges, path, within) few =
        let sum = cost_append c measure (calls_of edges) (t ∷ []) in
        (calls_of edges ++ t ∷ [], (edges, t, path, (n, next, at, named), refl), omega (arith, within, few, sum, sum_is))

    to : cost ≤ cost_by measure sum → (cost ≡ 0) ⊎ IsOpened c actor measure place cost
    to few = inr (add ((is_table.exact measure place (cost_by measure most)).0 (some_has measure (slice_index_or table place None) most some)) few)

    bounded : IsOpened c actor measure place cost → cost ≤ cost_by measure sum
    bounded (calls, (edges, u, path, sends, is), few) =
        let has = (is_table.exact measure place (cost_along c measure (calls_of edges))).1 (edges, path, omega arith) in
        let within = some_bounds measure (slice_index_or table place None) most _ some has in
        let weight_is = ap (cost_of c measure) (one_template c actor place n next t u at named sends) in
        let sum = opened_cost c measure calls (calls_of edges) u is in
        omega (arith, few, within, weight_is, sum, sum_is)

    from : (cost ≡ 0) ⊎ IsOpened c actor measure place cost → cost ≤ cost_by measure sum
    from (inl zero) = omega (arith, zero)
    from (inr opened) = bounded opened

-- where no path leads to the place
pub send_unreached : (c : Code) (actor : Actor) (measure : Measure) (table : List (Option Cost)) (place : ℕ)
    → IsCostTable c actor table
    → slice_index_or table place None ≡ None → IsCostAt c actor measure place 0
send_unreached c actor measure table place is_table none cost = (to, from)
  where
    to : cost ≤ 0 → (cost ≡ 0) ⊎ IsOpened c actor measure place cost
    to few = inl (omega (arith, few))

    never : IsOpened c actor measure place cost → ⊥
    never (calls, (edges, t, path, sends, is), few) =
        none_has measure (slice_index_or table place None) 0 none ((is_table.exact measure place 0).1 (edges, path, omega arith))

    from : (cost ≡ 0) ⊎ IsOpened c actor measure place cost → cost ≤ 0
    from (inl zero) = omega (arith, zero)
    from (inr opened) = absurd (never opened)

-- ---- the greatest cost

-- of the places before this one
pub record IsGreatestBefore (c : Code) (actor : Actor) (measure : Measure) (place most : ℕ) : Type 0 where
  pub attained : MayCost c actor measure most
  pub bound : (p cost : ℕ) → p < place → IsOpened c actor measure p cost → cost ≤ most

cost_attained : (c : Code) (actor : Actor) (measure : Measure) (place most : ℕ) → IsCostAt c actor measure place most
    → MayCost c actor measure most
cost_attained c actor measure place most exact = by_cases ((exact most).0 (omega arith))
  where
    by_cases : (most ≡ 0) ⊎ IsOpened c actor measure place most → MayCost c actor measure most
    by_cases (inl zero) = inl zero
    by_cases (inr (calls, opens, few)) =
        let bound = (exact (cost_along c measure calls)).1 (inr (calls, opens, omega arith)) in
        inr (place, calls, opens, omega (arith, few, bound))

pub greatest_goes_on : (c : Code) (actor : Actor) (measure : Measure) (place most at_place next : ℕ) → next ≡ max most at_place
    → IsCostAt c actor measure place at_place → IsGreatestBefore c actor measure place most
    → IsGreatestBefore c actor measure (place + 1) next
greatest_goes_on c actor measure place most at_place next is exact so_far = record {
  attained =
      ⊎_elim
      (λ less. subst (MayCost c actor measure) (omega (arith, less, is)) (cost_attained c actor measure place at_place exact))
      (λ more. subst (MayCost c actor measure) (omega (arith, more, is)) so_far.attained)
      (cases_lt most at_place);
  bound = λ p cost before opened.
      ⊎_elim
      (λ earlier. let few = so_far.bound p cost earlier opened in omega (arith, few, is))
      (λ here. let same : p ≡ place = omega (arith, before, here) in
      let few = (exact cost).1 (inr (subst (λ p. IsOpened c actor measure p cost) same opened)) in omega (arith, few, is))
      (cases_lt p place);
}

pub greatest_ends : (c : Code) (actor : Actor) (measure : Measure) (place most : ℕ) → length (instructions_in c actor) ≤ place
    → IsGreatestBefore c actor measure place most → IsGreatestCost c actor measure most
greatest_ends c actor measure place most all so_far = record { attained = so_far.attained; bound = bound }
  where
    bound : (cost : ℕ) → MayCost c actor measure cost → cost ≤ most
    bound cost (inl zero) = omega (arith, zero)
    bound cost (inr (p, calls, (edges, t, leads, (n, next, at, named), is), cost_is)) =
        let inside = slice_get_within (instructions_in c actor) p (instr.Send n next) at in
        so_far.bound p cost (omega (arith, inside, all)) (calls, (edges, t, leads, (n, next, at, named), is), omega (arith, cost_is))
