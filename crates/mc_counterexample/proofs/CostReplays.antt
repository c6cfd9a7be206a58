-- What of a run that shows a fault of a budget is left after each reply.
use Rattle.std.proofs.Common.{◌≡◌, ◌↔◌, ⊎_elim, ℕ, ◌+◌, ◌*◌, ◌<◌, ◌≤◌, Bool, true, false, ◌&&◌, Some, List, [], ◌∷◌, ◌++◌, slice_get}
use Rattle.std.proofs.Common.{refl, ap, sym, subst, ◌∙◌, arith}
use Rattle.std.proofs.Common.{if◌then◌else◌}
use Rattle.mc_protocol.specs.{Merge.IsMerge, Sections.section_of, declared.actor.Actor.Actor, declared.reply.Class.Class, declared.sections.Sections.Sections}
use Rattle.mc_protocol.specs.Merge as merge
use Rattle.mc_protocol.specs.declared.actor.Actor.TheVariants as actor
use Rattle.mc_protocol.proofs.{FirstItems.head_is, FirstItems.rest_is, Merges.merge_first, Merges.merge_right_alone}
use Rattle.mc_script.specs.declared.step.Template.{Template}
use Rattle.mc_code.specs.{Calls.SendsAt, Calls.LeadsIn, Calls.calls_of, Code.Code, Code.instructions_in, Paths.Edge, Paths.stays}
use Rattle.mc_code.specs.Code as codes
use Rattle.mc_code.specs.declared.instr.Instr.TheVariants as instr
use Rattle.mc_sound.specs.{Costs.cost_of, Costs.cost_along, Costs.bound_of, Interleavings.Stage, Interleavings.staged, declared.measure.Measure.Measure}
use Rattle.mc_sound.specs.{Faults.IsStructured}
use Rattle.mc_counterexample.specs.{CostReplays.ShowsExcess, CostReplays.own_cost, CostReplays.cost_in, CostReplays.ExceedsFrom, Replays.RestsAt}
use Rattle.mc_counterexample.specs.{Replays.IsAnswered, Replays.first_places, Replays.moved, Replays.is_of, Replays.is_heard, Replays.are_heard, Replays.GoesOn}
use Rattle.mc_counterexample.specs.{Replays.LeadsFrom, declared.cost_replay.CostReplay.CostReplay}
use Rattle.mc_verify.specs.Shown.{replies_along, front, IsBegun}
use Rattle.mc_counterexample.proofs.{Settling.sends_rest_at, Settling.sends_once_at, Settling.answered_later, InterleavingSteps.goes_once}
use Rattle.mc_counterexample.proofs.{InterleavingSteps.interleaving_begins, InterleavingSteps.interleaving_follows, InterleavingEnds.no_interleaving}

-- ---- merges

merge_left_alone : {A : Type 0} (xs : List A) → IsMerge xs [] xs
merge_left_alone [] = merge.none
merge_left_alone (x ∷ xs) = merge.left (merge_left_alone xs)

merge_turned : {A : Type 0} {xs ys zs : List A} → IsMerge xs ys zs → IsMerge ys xs zs
merge_turned merge.none = merge.none
merge_turned (merge.left m) = merge.right (merge_turned m)
merge_turned (merge.right m) = merge.left (merge_turned m)

-- ---- one more reply

-- the replay goes on to the next one by a reply of the class to the template
pub record CostsGoOn (c : Code) (measure : Measure) (named : Actor) (replay : CostReplay) (actor : Actor) (t : Template) (class : Class) (next : CostReplay)
    : Type 0 where
  pub goes : GoesOn c named replay.places actor t class next.places
  pub cost : next.cost ≡ replay.cost + own_cost c measure named actor t

exceeds_next : (c : Code) (measure : Measure) (named : Actor) (place : ℕ) (replay next : CostReplay) (actor : Actor) (t : Template) (class : Class)
    (rest : List (Actor × Class)) → CostsGoOn c measure named replay actor t class next → ExceedsFrom c measure named place replay ((actor, class) ∷ rest)
    → ExceedsFrom c measure named place next rest
exceeds_next c measure named place replay next who t class rest on exceeds =
    let begins = interleaving_begins c named replay.places place who class exceeds.interleaving rest exceeds.leads exceeds.shown_is in
    let same = goes_once c named replay.places who begins.t t class begins.others next.places begins.goes on.goes in
    let cost : cost_in c measure named exceeds.interleaving ≡ own_cost c measure named who t + cost_in c measure named begins.more =
    ap (cost_in c measure named) begins.interleaving_is ∙ ap (λ t. own_cost c measure named who t + cost_in c measure named begins.more) same.0 in
    let more = exceeds.exceeds in
    let sum = on.cost in
    record {
      t = exceeds.t;
      interleaving = begins.more;
      shown_is = begins.rest_is;
      leads = subst (λ places. LeadsFrom c places named place begins.more) same.1 begins.leads;
      sends = exceeds.sends;
      exceeds = omega (arith, cost, more, sum);
    }

exceeds_before : (c : Code) (measure : Measure) (named : Actor) (place : ℕ) (replay next : CostReplay) (actor : Actor) (t : Template) (class : Class)
    (rest : List (Actor × Class)) → CostsGoOn c measure named replay actor t class next → ExceedsFrom c measure named place next rest
    → ExceedsFrom c measure named place replay ((actor, class) ∷ rest)
exceeds_before c measure named place replay next who t class rest on exceeds =
    let more = exceeds.exceeds in
    let sum = on.cost in
    record {
      t = exceeds.t;
      interleaving = (who, (t, class)) ∷ exceeds.interleaving;
      shown_is = ap (λ shown. (who, class) ∷ shown) exceeds.shown_is;
      leads = interleaving_follows c named replay.places place who t class next.places exceeds.interleaving on.goes exceeds.leads;
      sends = exceeds.sends;
      exceeds = omega (arith, more, sum);
    }

pub exceeds_after : (c : Code) (measure : Measure) (named : Actor) (replay next : CostReplay) (actor : Actor) (t : Template) (class : Class)
    → CostsGoOn c measure named replay actor t class next → (place : ℕ) (rest : List (Actor × Class))
    → ExceedsFrom c measure named place replay ((actor, class) ∷ rest) ↔ ExceedsFrom c measure named place next rest
exceeds_after c measure named replay next who t class on place rest =
    (exceeds_next c measure named place replay next who t class rest on, exceeds_before c measure named place replay next who t class rest on)

-- where no run goes on with the reply, none that exceeds the budget does
pub exceeds_none : (c : Code) (measure : Measure) (named : Actor) (replay : CostReplay) (actor : Actor) (class : Class)
    → ((t : Template) (others : Sections ℕ) → GoesOn c named replay.places actor t class others → ⊥)
    → (place : ℕ) (rest : List (Actor × Class)) → ExceedsFrom c measure named place replay ((actor, class) ∷ rest) → ⊥
exceeds_none c measure named replay who class never place rest exceeds =
    let begins = interleaving_begins c named replay.places place who class exceeds.interleaving rest exceeds.leads exceeds.shown_is in
    never begins.t begins.others begins.goes

-- what was sent costs no more than 1,000 for each place that the named section has left behind
small_after : (c : Code) (named : Actor) (places : Sections ℕ) (who : Actor) (t : Template) (class : Class) (to cost own : ℕ)
    → ((actor : Actor) → IsStructured c actor) → IsAnswered c who (section_of places who) t class to → cost ≤ 1000 * section_of places named
    → own ≤ 1000 → (is_of named who ≡ false → own ≡ 0) → cost + own ≤ 1000 * section_of (moved places who to) named
small_after c actor.P places actor.P t class to cost own structured answered small few none =
    let later = answered_later c actor.P (structured actor.P) places.p to t class answered in omega (arith, later, small, few)
small_after c actor.P places actor.A t class to cost own structured answered small few none = let is = none refl in omega (arith, small, is)
small_after c actor.P places actor.B t class to cost own structured answered small few none = let is = none refl in omega (arith, small, is)
small_after c actor.A places actor.P t class to cost own structured answered small few none = let is = none refl in omega (arith, small, is)
small_after c actor.A places actor.A t class to cost own structured answered small few none =
    let later = answered_later c actor.A (structured actor.A) places.a to t class answered in omega (arith, later, small, few)
small_after c actor.A places actor.B t class to cost own structured answered small few none = let is = none refl in omega (arith, small, is)
small_after c actor.B places actor.P t class to cost own structured answered small few none = let is = none refl in omega (arith, small, is)
small_after c actor.B places actor.A t class to cost own structured answered small few none = let is = none refl in omega (arith, small, is)
small_after c actor.B places actor.B t class to cost own structured answered small few none =
    let later = answered_later c actor.B (structured actor.B) places.b to t class answered in omega (arith, later, small, few)

pub cost_stays_small : (c : Code) (measure : Measure) (named : Actor) (replay : CostReplay) (actor : Actor) (t : Template) (class : Class)
    (others : Sections ℕ) (own : ℕ) → ((actor : Actor) → IsStructured c actor) → GoesOn c named replay.places actor t class others
    → replay.cost ≤ 1000 * section_of replay.places named → own ≤ 1000 → own ≡ own_cost c measure named actor t
    → replay.cost + own ≤ 1000 * section_of others named
cost_stays_small c measure named replay who t class others own structured goes small few own_is =
    let none : is_of named who ≡ false → own ≡ 0 = λ isnt. own_is ∙ ap (λ b. if b then cost_of c measure t else 0) isnt in
    subst (λ others. replay.cost + own ≤ 1000 * section_of others named) (sym goes.others_are)
    (small_after c named replay.places who t class goes.place replay.cost own structured goes.answered small few none)

-- ---- replies that are heard

heard_staged : (named who : Actor) (edges : List Edge) → ((class : Class) → is_heard named (who, class) ≡ true)
    → are_heard named (replies_along (staged who edges)) ≡ true
heard_staged named who [] heard = refl
heard_staged named who (edge ∷ edges) heard = rw (heard edge.1) (heard_staged named who edges heard)

heard_parts : (named : Actor) (first second : List Stage) → are_heard named (replies_along first) ≡ true → are_heard named (replies_along second) ≡ true
    → are_heard named (replies_along (first ++ second)) ≡ true
heard_parts named [] second e f = f
heard_parts named (stage ∷ first) second e f = by_first (is_heard named (stage.0, stage.1.1)) e (λ e. heard_parts named first second e f)
  where
    by_first : (b : Bool) → (b && are_heard named (replies_along first)) ≡ true
        → (are_heard named (replies_along first) ≡ true → are_heard named (replies_along (first ++ second)) ≡ true)
        → (b && are_heard named (replies_along (first ++ second))) ≡ true
    by_first true e more = more e
    by_first false e more = absurd (cc)

-- P's are heard, so the others are those behind them
heard_behind : (named : Actor) (before : List Edge) (merged : List Stage) → are_heard named (replies_along (staged actor.P before ++ merged)) ≡ true
    → are_heard named (replies_along merged) ≡ true
heard_behind named [] merged e = e
heard_behind named (edge ∷ before) merged e = heard_behind named before merged e

-- a merge of which the other branch's replies aren't heard has none of them
merge_heard : (named one other : Actor) → ((class : Class) → is_heard named (other, class) ≡ false) → (a b : List Edge) (merged : List Stage)
    → IsMerge (staged one a) (staged other b) merged → are_heard named (replies_along merged) ≡ true → merged ≡ staged one a
merge_heard named one other unheard a b [] m heard = sym (merge_first m).0
merge_heard named one other unheard a b (stage ∷ zs) m heard =
    ⊎_elim
    (λ (others, is, rest). by_one a others is rest
    (λ a m. merge_heard named one other unheard a b zs m (heard_rest (is_heard named (stage.0, stage.1.1)) heard)))
    (λ (others, is, rest). absurd (by_other b others is)) (merge_first m)
  where
    heard_rest : (b : Bool) → (b && are_heard named (replies_along zs)) ≡ true → are_heard named (replies_along zs) ≡ true
    heard_rest true e = e
    heard_rest false e = absurd (cc)

    by_one : (a : List Edge) (others : List Stage) → staged one a ≡ stage ∷ others → IsMerge others (staged other b) zs
        → ((a : List Edge) → IsMerge (staged one a) (staged other b) zs → zs ≡ staged one a) → stage ∷ zs ≡ staged one a
    by_one [] others is rest more = absurd (cc)
    by_one (edge ∷ a) others is rest more =
        let same = head_is (one, edge) stage (staged one a) others is in
        let after = rest_is (one, edge) stage (staged one a) others is in
        let moved = subst (λ xs. IsMerge xs (staged other b) zs) (sym after) rest in
        ap (λ stage. stage ∷ zs) (sym same) ∙ ap (λ l. (one, edge) ∷ l) (more a moved)

    by_other : (b : List Edge) (others : List Stage) → staged other b ≡ stage ∷ others → ⊥
    by_other [] others is = absurd (cc)
    by_other (edge ∷ b) others is =
        let same = head_is (other, edge) stage (staged other b) others is in
        let no : is_heard named (stage.0, stage.1.1) ≡ false =
        ap (λ (stage : Stage). is_heard named (stage.0, stage.1.1)) (sym same) ∙ unheard edge.1 in
        let clash : (false && are_heard named (replies_along zs)) ≡ true = ap (λ b. b && are_heard named (replies_along zs)) (sym no) ∙ heard in
        absurd (cc)

-- ---- costs along an interleaving

cost_of_others : (c : Code) (measure : Measure) (named who : Actor) (edges : List Edge) → is_of named who ≡ false
    → cost_in c measure named (staged who edges) ≡ 0
cost_of_others c measure named who [] other = refl
cost_of_others c measure named who (edge ∷ edges) other = let rest = cost_of_others c measure named who edges other in rw other (omega (arith, rest))

cost_of_own : (c : Code) (measure : Measure) (named : Actor) (edges : List Edge) → is_of named named ≡ true
    → cost_in c measure named (staged named edges) ≡ cost_along c measure (calls_of edges)
cost_of_own c measure named [] own = refl
cost_of_own c measure named (edge ∷ edges) own = rw own (ap (λ n. cost_of c measure edge.0 + n) (cost_of_own c measure named edges own))

cost_of_parts : (c : Code) (measure : Measure) (named : Actor) (first second : List Stage)
    → cost_in c measure named (first ++ second) ≡ cost_in c measure named first + cost_in c measure named second
cost_of_parts c measure named [] second = omega arith
cost_of_parts c measure named (stage ∷ first) second = let rest = cost_of_parts c measure named first second in omega (arith, rest)

cost_behind : (c : Code) (measure : Measure) (named : Actor) (before edges : List Edge) → is_of named actor.P ≡ false → is_of named named ≡ true
    → cost_in c measure named (staged actor.P before ++ staged named edges) ≡ cost_along c measure (calls_of edges)
cost_behind c measure named before edges other own =
    let parts = cost_of_parts c measure named (staged actor.P before) (staged named edges) in
    let none = cost_of_others c measure named actor.P before other in
    let all = cost_of_own c measure named edges own in
    omega (arith, parts, none, all)

cost_with_send : (c : Code) (measure : Measure) (edges : List Edge) (t : Template)
    → cost_along c measure (calls_of edges ++ t ∷ []) ≡ cost_along c measure (calls_of edges) + cost_of c measure t
cost_with_send c measure [] t = omega arith
cost_with_send c measure (edge ∷ edges) t = let rest = cost_with_send c measure edges t in omega (arith, rest)

-- ---- at the start

leads_alone : (c : Code) (named : Actor) (place : ℕ) (before edges : List Edge) → IsBegun c named before → LeadsIn c named edges place
    → LeadsFrom c first_places named place (front named before ++ staged named edges)
leads_alone c actor.P place before edges begun leads = (edges, leads, refl)
leads_alone c actor.A place before edges begun leads = (
  0,
  record {
    before = before;
    a = edges;
    b = [];
    merged = staged actor.A edges;
    end = begun.0;
    path_p = begun.1;
    halts = begun.2;
    path_a = leads;
    path_b = stays;
    merge = merge_left_alone (staged actor.A edges);
    interleaving_is = refl;
  },
)
leads_alone c actor.B place before edges begun leads = (
  0,
  record {
    before = before;
    a = [];
    b = edges;
    merged = staged actor.B edges;
    end = begun.0;
    path_p = begun.1;
    halts = begun.2;
    path_a = stays;
    path_b = leads;
    merge = merge_right_alone (staged actor.B edges);
    interleaving_is = refl;
  },
)

heard_alone : (named : Actor) (before edges : List Edge) → are_heard named (replies_along (front named before ++ staged named edges)) ≡ true
heard_alone actor.P before edges = heard_staged actor.P actor.P edges (λ class. refl)
heard_alone actor.A before edges =
    heard_parts actor.A (staged actor.P before) (staged actor.A edges) (heard_staged actor.A actor.P before (λ class. refl))
    (heard_staged actor.A actor.A edges (λ class. refl))
heard_alone actor.B before edges =
    heard_parts actor.B (staged actor.P before) (staged actor.B edges) (heard_staged actor.B actor.P before (λ class. refl))
    (heard_staged actor.B actor.B edges (λ class. refl))

cost_alone : (c : Code) (measure : Measure) (named : Actor) (before edges : List Edge)
    → cost_in c measure named (front named before ++ staged named edges) ≡ cost_along c measure (calls_of edges)
cost_alone c measure actor.P before edges = cost_of_own c measure actor.P edges refl
cost_alone c measure actor.A before edges = cost_behind c measure actor.A before edges refl refl
cost_alone c measure actor.B before edges = cost_behind c measure actor.B before edges refl refl

-- the paths of an interleaving of P and the named section alone
pub record ArePaths (c : Code) (named : Actor) (place : ℕ) (interleaving : List Stage) : Type 0 where
  pub before : List Edge
  pub edges : List Edge
  pub begun : IsBegun c named before
  pub leads : LeadsIn c named edges place
  pub interleaving_is : interleaving ≡ front named before ++ staged named edges

pub paths_alone : (c : Code) (named : Actor) (place : ℕ) (interleaving : List Stage) → LeadsFrom c first_places named place interleaving
    → are_heard named (replies_along interleaving) ≡ true → ArePaths c named place interleaving
paths_alone c actor.P place interleaving (edges, path, is) heard = record { before = []; edges = edges; begun = tt; leads = path; interleaving_is = is }
paths_alone c actor.A place interleaving (other, both) heard =
    let behind = heard_behind actor.A both.before both.merged (ap (λ interleaving. are_heard actor.A (replies_along interleaving)) (sym both.interleaving_is)
    ∙ heard) in
    let merged = merge_heard actor.A actor.A actor.B (λ class. refl) both.a both.b both.merged both.merge behind in
    record {
      before = both.before;
      edges = both.a;
      begun = (both.end, both.path_p, both.halts);
      leads = both.path_a;
      interleaving_is = both.interleaving_is ∙ ap (λ merged. staged actor.P both.before ++ merged) merged;
    }
paths_alone c actor.B place interleaving (other, both) heard =
    let behind = heard_behind actor.B both.before both.merged (ap (λ interleaving. are_heard actor.B (replies_along interleaving)) (sym both.interleaving_is)
    ∙ heard) in
    let merged = merge_heard actor.B actor.B actor.A (λ class. refl) both.b both.a both.merged (merge_turned both.merge) behind in
    record {
      before = both.before;
      edges = both.b;
      begun = (both.end, both.path_p, both.halts);
      leads = both.path_b;
      interleaving_is = both.interleaving_is ∙ ap (λ merged. staged actor.P both.before ++ merged) merged;
    }

pub excess_heard : (c : Code) (measure : Measure) (named : Actor) (place : ℕ) (shown : List (Actor × Class)) → ShowsExcess c measure named place shown
    → are_heard named shown ≡ true
excess_heard c measure named place shown (interleaving, shown_is, exceeds) =
    ap (are_heard named) shown_is ∙ ap (λ interleaving. are_heard named (replies_along interleaving)) exceeds.interleaving_is
    ∙ heard_alone named exceeds.before exceeds.edges

pub excess_from_first : (c : Code) (measure : Measure) (named : Actor) (place : ℕ) (first : CostReplay) → first.places ≡ first_places → first.cost ≡ 0
    → (shown : List (Actor × Class)) → are_heard named shown ≡ true
    → ShowsExcess c measure named place shown ↔ ExceedsFrom c measure named place first shown
excess_from_first c measure named place first places none shown heard = (forth, back)
  where
    forth : ShowsExcess c measure named place shown → ExceedsFrom c measure named place first shown
    forth (interleaving, shown_is, exceeds) =
        let from_first = subst (LeadsFrom c first_places named place) (sym exceeds.interleaving_is)
        (leads_alone c named place exceeds.before exceeds.edges exceeds.begun exceeds.leads) in
        let whole = cost_with_send c measure exceeds.edges exceeds.t in
        let own = ap (cost_in c measure named) exceeds.interleaving_is ∙ cost_alone c measure named exceeds.before exceeds.edges in
        let more = exceeds.exceeds in
        record {
          t = exceeds.t;
          interleaving = interleaving;
          shown_is = shown_is;
          leads = subst (λ places. LeadsFrom c places named place interleaving) (sym places) from_first;
          sends = exceeds.sends;
          exceeds = omega (arith, whole, own, more, none);
        }

    back : ExceedsFrom c measure named place first shown → ShowsExcess c measure named place shown
    back exceeds =
        let from_first = subst (λ places. LeadsFrom c places named place exceeds.interleaving) places exceeds.leads in
        let paths = paths_alone c named place exceeds.interleaving from_first (ap (are_heard named) (sym exceeds.shown_is) ∙ heard) in
        let whole = cost_with_send c measure paths.edges exceeds.t in
        let own = ap (cost_in c measure named) paths.interleaving_is ∙ cost_alone c measure named paths.before paths.edges in
        let more = exceeds.exceeds in (
          exceeds.interleaving,
          exceeds.shown_is,
          record {
            before = paths.before;
            edges = paths.edges;
            t = exceeds.t;
            begun = paths.begun;
            leads = paths.leads;
            sends = exceeds.sends;
            exceeds = omega (arith, whole, own, more, none);
            interleaving_is = paths.interleaving_is;
          },
        )

-- ---- at the end

-- the section rests at a send that exceeds the budget
pub record IsExceeding (c : Code) (measure : Measure) (named : Actor) (place : ℕ) (replay : CostReplay) : Type 0 where
  pub t : Template
  pub rests : RestsAt c named place
  pub leads : LeadsFrom c replay.places named place []
  pub sends : SendsAt c named place t
  pub exceeds : bound_of measure (codes.section_of c named).budget < replay.cost + cost_of c measure t

pub exceeding_there : (c : Code) (measure : Measure) (named : Actor) (place : ℕ) (replay : CostReplay) → ExceedsFrom c measure named place replay []
    → IsExceeding c measure named place replay
exceeding_there c measure named place replay exceeds =
    let none = no_interleaving exceeds.interleaving exceeds.shown_is in
    let cost : cost_in c measure named exceeds.interleaving ≡ 0 = ap (cost_in c measure named) none in
    let more = exceeds.exceeds in
    record {
      t = exceeds.t;
      rests = sends_rest_at c named place exceeds.t exceeds.sends;
      leads = subst (LeadsFrom c replay.places named place) none exceeds.leads;
      sends = exceeds.sends;
      exceeds = omega (arith, cost, more);
    }

pub there_exceeding : (c : Code) (measure : Measure) (named : Actor) (place n : ℕ) (next : List ℕ) (t : Template) (replay : CostReplay) (found : Bool)
    → LeadsFrom c replay.places named place [] → slice_get (instructions_in c named) place ≡ Some (instr.Send n next) → slice_get c.templates n ≡ Some t
    → (found ≡ true) ↔ (bound_of measure (codes.section_of c named).budget < replay.cost + cost_of c measure t)
    → (found ≡ true) ↔ ExceedsFrom c measure named place replay []
there_exceeding c measure named place n next t replay found leads at at_t tells =
    (λ h. forth (tells.0 h), λ exceeds. back (exceeding_there c measure named place replay exceeds))
  where
    forth : bound_of measure (codes.section_of c named).budget < replay.cost + cost_of c measure t → ExceedsFrom c measure named place replay []
    forth more = record {
      t = t;
      interleaving = [];
      shown_is = refl;
      leads = leads;
      sends = (n, next, at, at_t);
      exceeds = omega (arith, more);
    }

    back : IsExceeding c measure named place replay → found ≡ true
    back exceeding =
        let same = sends_once_at c named place n next exceeding.t t exceeding.sends at at_t in
        let cost = ap (cost_of c measure) same in
        let more = exceeding.exceeds in
        tells.1 (omega (arith, cost, more))
