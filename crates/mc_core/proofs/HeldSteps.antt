-- What a world holds at its start, and after an event that it takes: the branches begin once P is done, with what it leaves.
use Rattle.std.proofs.Common.{◌≡◌, ◌≢◌, ◌⊎◌, inl, inr, ℕ, Option, None, List, [], refl, ap, sym, subst, ◌∙◌, false, ◌∷◌, ◌++◌}
use Rattle.std.specs.List.{zip}
use Rattle.mc_protocol.specs.{Sections.section_of, declared.actor.Actor.Actor, declared.event.Event.Event}
use Rattle.mc_protocol.specs.declared.sections.Sections.{Sections}
use Rattle.mc_protocol.specs.declared.actor.Actor.TheVariants as actor
use Rattle.mc_code.specs.{Code.Code, Standing.ComesTo, Standing.Leaves, Standing.no_variables, States.Tagged, States.State, States.ended}
use Rattle.mc_machine.specs.{Machine.IsAt, Machine.StartsFrom, Machine.numbers_of, declared.machine.Machine.Machine}
use Rattle.mc_model.specs.Notes.{is_same_section}
use Rattle.mc_core.specs.Fields.{replies_of, waiting_in, fault_in, world_in, held_in, Begins, LeavesNumbers, BranchesBegin, BranchesFollow, AfterOwn}
use Rattle.mc_core.specs.Worlds.{World, Noted, new_world, log_of, exchanges_of, BeginsIn, IsBegun, IsDone, IsEnding, with_note, with_section}
use Rattle.mc_core.specs.{Fields.AllTake, Held.Stands, Held.HasMachine, Held.IsHeldBy, Logs.Log, Logs.new_log, Logs.exchanges_in, Steps.ends, Steps.IsStep}
use Rattle.mc_core.specs.{declared.ending.Ending.Ending, declared.section.Section.Section}
use Rattle.mc_core.specs.declared.ending.Ending.TheVariants as ending
use Rattle.mc_core.proofs.HeldWorlds.{Shows, AllShow, shown_held, machine_stands, stands_in, ended_there, Ends, ends_as, After, Goes, Fields, shown}
use Rattle.mc_core.proofs.OwnSection.{log_is, before_own, own_after, other_replies}
use Rattle.mc_core.proofs.StepLemmas.{MayBeRight, still_new, AsBefore, as_before}
use Rattle.mc_core.proofs.{FoldLemmas.ends_once, FoldLemmas.fold_right, FoldLemmas.repeats, LogLemmas.each_section}

pub is_done : (x : Ending) → (x ≡ ending.Done) ⊎ (x ≢ ending.Done)
is_done ending.Done = inl refl
is_done _ = inr (λ e. cc)

-- ---- what P leaves

-- the variables that P leaves, whose numbers are those of its machine
pub record Left (c : Code) (v : World) (m : Machine) : Type 0 where
  pub variables : List Tagged
  pub leaves : Leaves c (exchanges_of c v actor.P) variables
  pub to_a : StartsFrom c actor.A (numbers_of m) variables
  pub to_b : StartsFrom c actor.B (numbers_of m) variables

p_leaves : (c : Code) (v : World) (m : Machine) → IsDone c v actor.P → Stands c v actor.P m → Left c v m
p_leaves c v m done stands =
    let exchanges = exchanges_of c v actor.P in
    let comes = subst (λ vs. ComesTo c actor.P vs exchanges stands.st ended) stands.begins
    (subst (λ a. ComesTo c a stands.variables exchanges stands.st ended) stands.actor (ended_there c v actor.P m stands done.2)) in
    let leaves : Leaves c exchanges stands.st.variables = (stands.st, comes, refl) in record {
      variables = stands.st.variables;
      leaves = leaves;
      to_a = ((exchanges, leaves), stands.at.way.numbers);
      to_b = ((exchanges, leaves), stands.at.way.numbers);
    }

pub leaves_numbers : (c : Code) (v : World) (notes : List Noted) (p : Section) → Shows c v notes actor.P p → p.ending ≡ ending.Done
    → LeavesNumbers c p
leaves_numbers c v notes p shows done = by_machine shows.machine
  where
    by_machine : HasMachine c v actor.P p.ending p.machine → LeavesNumbers c p
    by_machine (inl (not, none)) = let clash = sym done ∙ not in absurd (cc)
    by_machine (inr (m, begun, is, stands)) =
        let left = p_leaves c v m (subst (IsEnding c v actor.P) done shows.stands).1 stands in
        record { m = m; machine = is; variables = left.variables; to_a = left.to_a; to_b = left.to_b }

-- ---- a section that begins

-- nothing has happened in the section
pub record IsNew (c : Code) (v : World) (notes : List Noted) (who : Actor) (s : Section) : Type 0 where
  pub not_begun : s.ending ≡ ending.NotBegun
  pub no_machine : s.machine ≡ None
  pub no_calls : zip s.answered.items (replies_of who notes) ≡ []
  pub new : log_of v who ≡ new_log

-- it was so before an event of another section
pub still_unbegun : (c : Code) (w v : World) (notes more : List Noted) (who : Actor) (s : Section) → Shows c w notes who s
    → (IsBegun c w who → ⊥) → MayBeRight c w who → replies_of who more ≡ replies_of who notes → log_of v who ≡ log_of w who
    → IsNew c v more who s
still_unbegun c w v notes more who s shows never right replies same =
    let not = by_ending s.ending shows.stands in record {
      not_begun = not;
      no_machine = by_machine s.ending s.machine not shows.machine;
      no_calls =
          ap (zip s.answered.items) replies
          ∙ ap (λ (log : Log). log.answered) (shows.logged ∙ still_new c w who right never);
      new = same ∙ still_new c w who right never;
    }
  where
    by_ending : (x : Ending) → IsEnding c w who x → x ≡ ending.NotBegun
    by_ending ending.NotBegun stands = refl
    by_ending _ stands = absurd (never stands.0)

    by_machine : (x : Ending) (o : Option Machine) → x ≡ ending.NotBegun → HasMachine c w who x o → o ≡ None
    by_machine x o not (inl (same, none)) = none
    by_machine x o not (inr (m, begun, is, stands)) = absurd (begun not)

-- a section that doesn't begin yet
unbegun_shows : (c : Code) (v : World) (notes : List Noted) (who : Actor) (s : Section) → IsNew c v notes who s → (IsBegun c v who → ⊥)
    → Shows c v notes who s
unbegun_shows c v notes who s new never = record {
  logged = log_is _ _ _ _ _ _ new.no_calls (ap waiting_in new.no_machine) (ap fault_in new.not_begun) ∙ sym new.new;
  stands = subst (IsEnding c v who) (sym new.not_begun) never;
  machine = inl (new.not_begun, new.no_machine);
}

-- a section that begins now
section_begins : (c : Code) (v : World) (notes : List Noted) (who : Actor) (numbers : List ℕ) (variables : List Tagged) (s t : Section)
    → IsNew c v notes who s → Begins c who numbers s t → StartsFrom c who numbers variables → BeginsIn c v who variables → IsBegun c v who
    → Shows c v notes who t
section_begins c v notes who numbers variables s t new begins starts begins_in begun = record {
  logged =
      log_is _ _ _ _ _ _
      (ap (λ l. zip l (replies_of who notes)) begins.answered.0 ∙ new.no_calls)
      (ap waiting_in begins.machine ∙ begins.idle)
      ended.faultless
      ∙ sym new.new;
  stands = ended.stands;
  machine = inr (begins.m, ended.begun, begins.machine, stands);
}
  where
    at : (st : State) × IsAt c begins.m variables [] st
    at = begins.stands variables starts

    stands : Stands c v who begins.m
    stands =
        stands_in c v who begins.m variables [] at.0 begins.actor (begins.idle ∙ sym (ap (λ (log : Log). log.waiting) new.new)) begins_in
        (ap (exchanges_in c) new.new) at.1

    ended : Ends c v who t.ending
    ended =
        ends_as c v who begins.m t.ending stands begun (ap (λ (log : Log). log.fault) new.new) (ap (λ (log : Log). log.waiting) new.new) begins.ending

-- where P is done the branches begin
pub branches_show : (c : Code) (v : World) (notes : List Noted) (s t : Sections Section) → Shows c v notes actor.P s.p
    → IsNew c v notes actor.A s.a → IsNew c v notes actor.B s.b → BranchesFollow c s t → AllShow c v notes t
branches_show c v notes s t in_p in_a in_b (same_p, begin, stay) = by_end (is_done s.p.ending)
  where
    still : s.p.ending ≢ ending.Done → AllShow c v notes s
    still goes_on =
        let never : IsDone c v actor.P → ⊥ = λ done. goes_on (ends_once c v actor.P s.p.ending ending.Done in_p.stands (tt, done)) in
        all (unbegun_shows c v notes actor.A s.a in_a never) (unbegun_shows c v notes actor.B s.b in_b never)
      where
        all : Shows c v notes actor.A s.a → Shows c v notes actor.B s.b → AllShow c v notes s
        all a b actor.P = in_p
        all a b actor.A = a
        all a b actor.B = b

    now : s.p.ending ≡ ending.Done → AllShow c v notes t
    now done = all
      where
        begun : BranchesBegin c s t
        begun = begin done

        p_done : IsDone c v actor.P
        p_done = (subst (IsEnding c v actor.P) done in_p.stands).1

        left : Left c v begun.m
        left = p_leaves c v begun.m p_done (machine_stands c v actor.P s.p.ending s.p.machine begun.m in_p.machine begun.machine)

        all : AllShow c v notes t
        all actor.P = subst (Shows c v notes actor.P) (sym same_p) in_p
        all actor.A = section_begins c v notes actor.A (numbers_of begun.m) left.variables s.a t.a in_a begun.a left.to_a left.leaves p_done
        all actor.B = section_begins c v notes actor.B (numbers_of begun.m) left.variables s.b t.b in_b begun.b left.to_b left.leaves p_done

    by_end : (s.p.ending ≡ ending.Done) ⊎ (s.p.ending ≢ ending.Done) → AllShow c v notes t
    by_end (inl done) = now done
    by_end (inr goes_on) = subst (AllShow c v notes) (sym (stay goes_on)) (still goes_on)

-- ---- the start

-- what is known of a section that was just made
abbrev pub IsMade : Section → Type 0
IsMade s = (s.machine ≡ None) × (s.answered.items ≡ []) × (s.ending ≡ ending.NotBegun)

made_new : (c : Code) (who : Actor) (s : Section) → IsMade s → log_of new_world who ≡ new_log → IsNew c new_world [] who s
made_new c who s made new = record {
  not_begun = made.2;
  no_machine = made.0;
  no_calls = ap (λ l. zip l (replies_of who [])) made.1;
  new = new;
}

p_shows : (c : Code) (numbers : List ℕ) (s p : Section) → IsMade s → Begins c actor.P numbers s p → Shows c new_world [] actor.P p
p_shows c numbers s p made begins =
    section_begins c new_world [] actor.P numbers (no_variables c) s p (made_new c actor.P s made refl) begins refl refl tt

pub leaves_start : (c : Code) (numbers : List ℕ) (s p : Section) → IsMade s → Begins c actor.P numbers s p → p.ending ≡ ending.Done
    → LeavesNumbers c p
leaves_start c numbers s p made begins done = leaves_numbers c new_world [] p (p_shows c numbers s p made begins) done

-- a new world
pub started : (c : Code) (numbers : List ℕ) (s t : Sections Section) (p : Section) → IsMade s.p → IsMade s.a → IsMade s.b
    → Begins c actor.P numbers s.p p → BranchesFollow c (record s { p = p }) t
    → (world_in t [] ≡ new_world) × IsHeldBy c (held_in t [])
started c numbers s t p in_p in_a in_b begins follow =
    shown_held c new_world t [] ends refl
    (branches_show c new_world [] (record s { p = p }) t (p_shows c numbers s.p p in_p begins) (made_new c actor.A s.a in_a refl)
    (made_new c actor.B s.b in_b refl) follow)

-- ---- what an event of a branch leaves as it was

shows_still : (c : Code) (w v : World) (notes more : List Noted) (who : Actor) (s : Section) → AsBefore c w v who
    → replies_of who more ≡ replies_of who notes → Shows c w notes who s → Shows c v more who s
shows_still c w v notes more who s same replies shows = record {
  logged = log_is _ _ _ _ _ _ (ap (zip s.answered.items) replies) refl refl ∙ shows.logged ∙ sym same.log_is;
  stands = by_ending s.ending shows.stands;
  machine = by_machine shows.machine;
}
  where
    by_ending : (x : Ending) → IsEnding c w who x → IsEnding c v who x
    by_ending ending.NotBegun stands = λ begun. stands (same.back begun)
    by_ending ending.Running stands =
        (same.begun stands.0, ap (λ (log : Log). log.fault) same.log_is ∙ stands.1, λ done. stands.2 (same.not_done done))
    by_ending ending.Done stands = (same.begun stands.0, same.done stands.1)
    by_ending (ending.Failed fault) stands = (same.begun stands.0, ap (λ (log : Log). log.fault) same.log_is ∙ stands.1)

    by_machine : HasMachine c w who s.ending s.machine → HasMachine c v who s.ending s.machine
    by_machine (inl none) = inl none
    by_machine (inr (m, begun, is, at)) =
        let stands = stands_in c v who m at.variables _ at.st at.actor (at.waits ∙ sym (ap (λ (log : Log). log.waiting) same.log_is))
        (same.begins at.variables at.begins) (ap (exchanges_in c) same.log_is) at.at in
        inr (m, begun, is, stands)

-- ---- any event

branch_shows : (c : Code) (s : Sections Section) (notes : List Noted) (who : Actor) (e : Event) (own : Section) (log : Log) → Fields c s notes
    → who ≢ actor.P → Shows c (with_note (world_in s notes) who e log) (notes ++ (who, e) ∷ []) who own
    → AllShow c (with_note (world_in s notes) who e log) (notes ++ (who, e) ∷ []) (with_section s who own)
branch_shows c s notes who e own log fields branch shows =
    let w = world_in s notes in
    let v = with_note w who e log in
    let more = notes ++ (who, e) ∷ [] in
    each_section (Shows c v more) s who own shows (λ o other.
    shows_still c w v notes more o (section_of s o) (as_before c w who e log branch o other) (other_replies o who notes e other)
    (shown c s notes fields o))

all_show : (c : Code) (s t : Sections Section) (notes : List Noted) (who : Actor) (e : Event) (own : Section) (log : Log) → Fields c s notes
    → IsEnding c (world_in s notes) who ending.Running → Shows c (with_note (world_in s notes) who e log) (notes ++ (who, e) ∷ []) who own
    → AfterOwn c who (with_section s who own) t → AllShow c (with_note (world_in s notes) who e log) (notes ++ (who, e) ∷ []) t
all_show c s t notes actor.P e own log fields at shows follow =
    branches_show c v (notes ++ (actor.P, e) ∷ []) (record s { p = own }) t shows (new actor.A refl at.2 refl) (new actor.B refl at.2 refl) follow
  where
    w : World
    w = world_in s notes

    v : World
    v = with_note w actor.P e log

    new : (o : Actor) → is_same_section o actor.P ≡ false → (IsBegun c w o → ⊥) → log_of v o ≡ log_of w o
        → IsNew c v (notes ++ (actor.P, e) ∷ []) o (section_of s o)
    new o other never same =
        still_unbegun c w v notes (notes ++ (actor.P, e) ∷ []) o (section_of s o) (shown c s notes fields o) never
        (fold_right c fields.held.fold o) (other_replies o actor.P notes e other) same
all_show c s t notes who e own log fields at shows is =
    subst (AllShow c _ _) (sym is) (branch_shows c s notes who e own log fields (λ e. cc) shows)

pub held_after : (c : Code) (s t : Sections Section) (notes : List Noted) (who : Actor) (e : Event) → Goes c s notes who e
    → AllTake c s who e t → After c (world_in s notes) who e (held_in t (notes ++ (who, e) ∷ []))
held_after c s t notes who e may (own_t, takes, follow) =
    let w = world_in s notes in
    let before = before_own c s notes who e may in
    let own = own_after c w who e notes (section_of s who) own_t before takes in
    let v = with_note w who e own.log in
    let at = subst (IsEnding c w who) may.running before.shows.stands in
    let step : IsStep c w who e v = record { begun = at.0; free = may.free; follows = own.follows } in
    let shows = all_show c s t notes who e own_t own.log may.fields at own.shows follow in
    let held = shown_held c v t (notes ++ (who, e) ∷ []) (repeats c w who e v may.fields.held.fold step) refl shows in
    record { step = subst (IsStep c w who e) (sym held.0) step; held = held.1 }
