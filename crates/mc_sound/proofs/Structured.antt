-- What is so of a section that is structured: it leads forwards to its end, and names what is there.
use Rattle.std.proofs.Common.{◌≡◌, ◌⊎◌, inl, inr, ℕ, zero, suc, ◌==◌, ◌+◌, ◌-◌, ◌<◌, ◌≤◌, nat_lt, Bool, true, false, not, Option}
use Rattle.std.proofs.Common.{Some, None, List, [], ◌∷◌, length, slice_get, refl, ap, sym, subst, ◌∙◌, arith, if◌then◌else◌, ⊎_elim}
use Rattle.std.proofs.lemmas.Bool.{ltb-true, le-leb, and_parts, cases_lt, not_from_false, true_from_ne_false}
use Rattle.std.proofs.lemmas.Option.{slice_get_within}
use Rattle.std.specs.List.{list_all}
use Rattle.mc_protocol.specs.{Legal.class_of, Legal.is_legal, Words.all_classes, declared.actor.Actor.Actor, declared.reply.Class.Class}
use Rattle.mc_protocol.specs.declared.reply.Class.TheVariants as class
use Rattle.mc_script.specs.declared.step.Template.{Template}
use Rattle.mc_code.specs.{Code.Code, Code.instructions_in, Paths.Slides, Paths.Sends, Paths.LeadsForwards, Paths.entry_of, Runs.Exchange, Standing.StandsAt}
use Rattle.mc_code.specs.{States.Tagged, States.State, declared.instr.Instr.Instr, declared.limits.TheConstants.NO_ENTRY}
use Rattle.mc_code.specs.declared.instr.Instr.TheVariants as instr
use Rattle.mc_code.proofs.{LookUps.some_is, RunLemmas.IsKeptByRuns, RunLemmas.kept_by_run}
use Rattle.mc_sound.specs.Structure.{IsStructured, is_ahead, is_entry, has_bad_entry, has_bad_target, has_bad_index, is_halt}

-- ---- what holds of all classes

pub all_at : {X : Type 0} (f : X → Bool) (xs : List X) (n : ℕ) (x : X) → list_all f xs ≡ true → slice_get xs n ≡ Some x → f x ≡ true
all_at f [] n x all at = absurd (cc)
all_at f (y ∷ ys) zero x all at = ap f (sym (some_is y x at)) ∙ (and_parts (f y) (list_all f ys) all).0
all_at f (y ∷ ys) (suc n) x all at = all_at f ys n x (and_parts (f y) (list_all f ys) all).1 at

-- what holds of all classes holds of each
pub each_class : (f : Class → Bool) (c : Class) → list_all f all_classes ≡ true → f c ≡ true
each_class f class.Stored all = all_at f all_classes 0 class.Stored all refl
each_class f class.NotStored all = all_at f all_classes 1 class.NotStored all refl
each_class f class.Exists all = all_at f all_classes 2 class.Exists all refl
each_class f class.NotFound all = all_at f all_classes 3 class.NotFound all refl
each_class f class.Hit all = all_at f all_classes 4 class.Hit all refl
each_class f class.Miss all = all_at f all_classes 5 class.Miss all refl
each_class f class.Deleted all = all_at f all_classes 6 class.Deleted all refl
each_class f class.Touched all = all_at f all_classes 7 class.Touched all refl
each_class f class.Number all = all_at f all_classes 8 class.Number all refl
each_class f class.NotNumber all = all_at f all_classes 9 class.NotNumber all refl

-- ---- the tests, as facts

is_so : (b : Bool) → (not b ≡ true → ⊥) → b ≡ true
is_so b never = true_from_ne_false b (λ e. never (not_from_false b e))

later : (size place target : ℕ) → is_ahead size place target ≡ true → (place < target) × (target < size)
later size place target e =
    let parts = and_parts (nat_lt place target) (nat_lt target size) e in
    (ltb-true place target parts.0, ltb-true target size parts.1)

halt_is : (o : Option Instr) → is_halt o ≡ true → o ≡ Some instr.Halt
halt_is None e = absurd (cc)
halt_is (Some (instr.Send n next)) e = absurd (cc)
halt_is (Some (instr.Bind variable)) e = absurd (cc)
halt_is (Some (instr.Goto target)) e = absurd (cc)
halt_is (Some instr.Halt) e = refl

bind_is_no_halt : (variable : ℕ) → Some (instr.Bind variable) ≡ Some instr.Halt → ⊥
bind_is_no_halt variable e = absurd (cc)

-- ---- the end

pub structured_halts : (c : Code) (actor : Actor) → IsStructured c actor
    → slice_get (instructions_in c actor) (length (instructions_in c actor) - 1) ≡ Some instr.Halt
structured_halts c actor structured =
    let section = instructions_in c actor in
    let last = slice_get section (length section - 1) in
    halt_is last (true_from_ne_false (is_halt last) (λ e. structured.halts (length section - 1) (refl, e)))

pub structured_some : (c : Code) (actor : Actor) → IsStructured c actor → 0 < length (instructions_in c actor)
structured_some c actor structured =
    let section = instructions_in c actor in
    let inside = slice_get_within section (length section - 1) instr.Halt (structured_halts c actor structured) in
    omega (arith, inside)

-- ---- what an instruction leads to

pub structured_slides : (c : Code) (actor : Actor) → IsStructured c actor → (i : Instr) (p q : ℕ)
    → slice_get (instructions_in c actor) p ≡ Some i → Slides i p q → (p < q) × (q < length (instructions_in c actor))
structured_slides c actor structured (instr.Send n next) p q at leads = absurd leads
structured_slides c actor structured (instr.Goto target) p q at leads =
    let size = length (instructions_in c actor) in
    let never = λ (e : not (is_ahead size p target) ≡ true). structured.targets p (ap (has_bad_target c.templates size p) at ∙ e) in
    subst (λ q. (p < q) × (q < size)) (sym leads) (later size p target (is_so (is_ahead size p target) never))
structured_slides c actor structured (instr.Bind variable) p q at leads = by_place (cases_lt (p + 1) (length section))
  where
    section : List Instr
    section = instructions_in c actor

    last : length section ≤ p + 1 → p ≡ length section - 1
    last at_end = let inside = slice_get_within section p (instr.Bind variable) at in omega (arith, at_end, inside)

    by_place : (p + 1 < length section) ⊎ (length section ≤ p + 1) → (p < q) × (q < length section)
    by_place (inl inside) = (omega (arith, leads), omega (arith, leads, inside))
    by_place (inr at_end) = absurd (bind_is_no_halt variable (sym at ∙ ap (slice_get section) (last at_end) ∙ structured_halts c actor structured))
structured_slides c actor structured instr.Halt p q at leads = absurd leads

pub structured_sends : (c : Code) (actor : Actor) → IsStructured c actor → (i : Instr) (p q : ℕ) (t : Template) (class : Class)
    → slice_get (instructions_in c actor) p ≡ Some i → Sends c.templates i t class q → (p < q) × (q < length (instructions_in c actor))
structured_sends c actor structured (instr.Send n next) p q t cl at leads =
    let size = length (instructions_in c actor) in
    let never = λ (e : not (list_all (is_entry size p t next) all_classes) ≡ true). structured.targets p
    (ap (has_bad_target c.templates size p) at ∙ ap (has_bad_entry size p next) leads.0 ∙ e) in
    let entries = is_so (list_all (is_entry size p t next) all_classes) never in
    let ahead = by_legal size (is_legal t.verb cl) leads.1 (each_class (is_entry size p t next) cl entries) in
    subst (λ q. (p < q) × (q < size)) (sym leads.2) (later size p (entry_of next cl) ahead)
  where
    by_legal : (size : ℕ) (legal : Bool) → legal ≡ true
        → (if legal then is_ahead size p (entry_of next cl) else entry_of next cl == NO_ENTRY) ≡ true
        → is_ahead size p (entry_of next cl) ≡ true
    by_legal size true is e = e
    by_legal size false is e = absurd (cc)
structured_sends c actor structured (instr.Bind variable) p q t class at leads = absurd leads
structured_sends c actor structured (instr.Goto target) p q t class at leads = absurd leads
structured_sends c actor structured instr.Halt p q t class at leads = absurd leads

pub structured_forwards : (c : Code) (actor : Actor) → IsStructured c actor → LeadsForwards c.templates (instructions_in c actor)
structured_forwards c actor structured i p q at leads = ⊎_elim
    (λ slides. structured_slides c actor structured i p q at slides)
    (λ (t, class, sends). structured_sends c actor structured i p q t class at sends) leads

-- ---- what an instruction names

pub structured_template : (c : Code) (actor : Actor) → IsStructured c actor → (p n : ℕ) (next : List ℕ)
    → slice_get (instructions_in c actor) p ≡ Some (instr.Send n next) → n < length c.templates
structured_template c actor structured p n next at = by_cases (cases_lt n (length c.templates))
  where
    by_cases : (n < length c.templates) ⊎ (length c.templates ≤ n) → n < length c.templates
    by_cases (inl inside) = inside
    by_cases (inr outside) = absurd (structured.indices p (ap (has_bad_index c) at ∙ le-leb (length c.templates) n outside))

pub structured_variable : (c : Code) (actor : Actor) → IsStructured c actor → (p variable : ℕ)
    → slice_get (instructions_in c actor) p ≡ Some (instr.Bind variable) → variable < c.vars
structured_variable c actor structured p variable at = by_cases (cases_lt variable c.vars)
  where
    by_cases : (variable < c.vars) ⊎ (c.vars ≤ variable) → variable < c.vars
    by_cases (inl inside) = inside
    by_cases (inr outside) = absurd (structured.indices p (ap (has_bad_index c) at ∙ le-leb c.vars variable outside))

-- ---- where a run stands

pub structured_stands : (c : Code) (actor : Actor) → IsStructured c actor → (variables : List Tagged) (exchanges : List Exchange)
    → (p : ℕ) (st : State) → StandsAt c actor variables exchanges p st → p < length (instructions_in c actor)
structured_stands c actor structured variables exchanges p st stands =
    let section = instructions_in c actor in
    let H : ℕ → State → Type 0 = λ p st. p < length section in
    let kept : IsKeptByRuns c.templates section H = record {
      slides_on = λ i p q st at leads h. (structured_slides c actor structured i p q at leads).1;
      sends_on = λ i p q st t given at leads fit h. (structured_sends c actor structured i p q t (class_of given) at leads).1;
    } in
    kept_by_run c.templates section H kept stands (structured_some c actor structured)
