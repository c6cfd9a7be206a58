-- What a world's step knows: what its fields must be for an event to be taken, what is against it, and what they keep.
use Rattle.std.proofs.Common.{◌≡◌, ◌≢◌, ◌⊎◌, inl, inr, ◌<◌, Option, Some, None, List, [], ◌∷◌, ◌++◌, length, map, refl, ap, sym, subst, ◌∙◌, arith}
use Rattle.std.proofs.Common.{length-append, ℕ, ◌≤◌, IfSome}
use Rattle.std.proofs.lemmas.List.{append-nil, length-map}
use Rattle.std.proofs.{lemmas.Bool.true_from_ne_false, lemmas.List.Elements.All-push, lemmas.Slice.Zip.length-zip}
use Rattle.std.specs.{Option.option_to_list, Vec.vec_len, Vec.vec_capacity}
use Rattle.mc_protocol.specs.{Legal.is_fit_for, Sections.section_of, declared.actor.Actor.Actor, declared.event.Event.Event}
use Rattle.mc_protocol.specs.{declared.reply.Reply.Reply, declared.sections.Sections.Sections}
use Rattle.mc_protocol.specs.declared.actor.Actor.TheVariants as actor
use Rattle.mc_protocol.specs.declared.event.Event.TheVariants as event
use Rattle.mc_code.specs.{Calls.IsCalling, Calls.template_of, Code.Code, Code.IsCode, Standing.ComesTo, States.ended, declared.instr.Call.Call}
use Rattle.mc_machine.specs.{Machine.actor_of, Machine.outstanding_of, declared.machine.Machine.Machine}
use Rattle.mc_sound.specs.Faults.{IsSound}
use Rattle.mc_core.specs.Fields.{replies_of, waiting_in, log_in, world_in, IsKept, IsFree, NamesATemplate, MayTake, Takes, SameCalls, LeavesAfter}
use Rattle.mc_core.specs.Fields.{BranchesBegin, BranchesFollow, AfterOwn, AllTake, held_in, AreKept, refusal_in, MayStep}
use Rattle.mc_core.specs.Worlds.{World, Noted, log_of, with_note, with_section, exchanges_of, IsEnding}
use Rattle.mc_core.specs.{Held.Stands, Held.HasMachine, Held.Held, Held.IsHeldBy, Logs.Log, Logs.call_of, Safety.IsSmallEvent, Safety.IsSmallNote, Steps.IsStep}
use Rattle.mc_core.specs.{Steps.IsRefused, declared.ending.Ending.Ending, declared.section.Section.Section, declared.step_refusal.StepRefusal.StepRefusal}
use Rattle.mc_core.specs.declared.ending.Ending.TheVariants as ending
use Rattle.mc_core.specs.declared.step_refusal.StepRefusal.TheVariants as refusal
use Rattle.mc_core.proofs.HeldSteps.{leaves_numbers, is_done, held_after}
use Rattle.mc_core.proofs.HeldWorlds.{Fields, Goes, Shows, shown, machine_stands, has_machine}
use Rattle.mc_core.proofs.OwnSection.{before_own, own_after, own_replies, other_replies}
use Rattle.mc_core.proofs.{LogLemmas.each_section, LogLemmas.call_inside, Refusals.refused_rightly, Refusals.taken_rightly, Safe.folds_within_room}

-- ---- templates

-- a call that waits names a template that is there
pub names_a_template : (c : Code) (w : World) (who : Actor) (x : Ending) (o : Option Machine) → HasMachine c w who x o
    → NamesATemplate c (waiting_in o)
names_a_template c w who x o (inl (not, none)) = subst (λ o. NamesATemplate c (waiting_in o)) (sym none) tt
names_a_template c w who x o (inr (m, begun, is, stands)) =
    subst (λ o. NamesATemplate c (waiting_in o)) (sym is) (by_call (outstanding_of m) stands.at.outstanding)
  where
    by_call : (o : Option Call) → ((made : Call) → o ≡ Some made → IsCalling c (actor_of m) stands.variables (exchanges_of c w who) made)
        → NamesATemplate c o
    by_call None calling = tt
    by_call (Some made) calling = call_inside c (actor_of m) stands.variables (exchanges_of c w who) made (calling made refl)

-- ---- what an event asks for

pub logged : (s : Sections Section) (notes : List Noted) (who : Actor) → log_of (world_in s notes) who ≡ log_in notes who (section_of s who)
logged s notes actor.P = refl
logged s notes _ = refl

-- there is room for a call that waits
room_for_call : (c : Code) (s : Sections Section) (notes : List Noted) (who : Actor) (made : Call) → Fields c s notes → IsCode c → IsSound c
    → (log_of (world_in s notes) who).waiting ≡ Some made → vec_len (section_of s who).answered < vec_capacity (section_of s who).answered
room_for_call c s notes who made fields kept sound waits =
    let own = section_of s who in
    let w = world_in s notes in
    let few = (folds_within_room c notes w 0 kept sound fields.held.fold).calls who in
    let is_kept = fields.kept who in
    let as_many = is_kept.replies in
    let pairs = ap (λ (log : Log). length log.answered) (logged s notes who) ∙ length-zip own.answered.items (replies_of who notes) in
    let one : length (option_to_list (log_of w who).waiting) ≡ 1 = ap (λ o. length (option_to_list o)) waits in
    let calls = length-append (map call_of (log_of w who).answered) (option_to_list (log_of w who).waiting) in
    let mapped = length-map (log_of w who).answered call_of in
    let len : vec_len own.answered ≡ length own.answered.items = own.answered.ok.0 in
    omega (arith, few, is_kept.room, as_many, pairs, one, calls, mapped, len)

pub may_take : (c : Code) (s : Sections Section) (notes : List Noted) (who : Actor) (e : Event) → Goes c s notes who e → IsCode c → IsSound c
    → MayTake c (section_of s who) e
may_take c s notes who e may kept sound = by_event e may.free
  where
    w : World
    w = world_in s notes

    shows : Shows c w notes who (section_of s who)
    shows = shown c s notes may.fields who

    at : IsEnding c w who ending.Running
    at = subst (IsEnding c w who) may.running shows.stands

    has : (m : Machine) × ((section_of s who).machine ≡ Some m)
    has = has_machine c w who (section_of s who).ending (section_of s who).machine shows.machine may.running

    stands : Stands c w who has.0
    stands = machine_stands c w who (section_of s who).ending (section_of s who).machine has.0 shows.machine has.1

    by_waiting : (o : Option Call) → (log_of w who).waiting ≡ o → (reply : Reply) → IsFree c w who (event.Reply reply)
        → MayTake c (section_of s who) (event.Reply reply)
    by_waiting None idle reply free = absurd (free refusal.NotWaiting idle)
    by_waiting (Some made) waits reply free =
        let fit = true_from_ne_false (is_fit_for (template_of c made).verb reply) (λ wrong. free refusal.WrongReply (made, waits, wrong)) in (
          has.0,
          has.1,
          (stands.variables, exchanges_of c w who, stands.st, stands.at),
          (made, stands.waits ∙ waits, fit),
          room_for_call c s notes who made may.fields kept sound waits,
        )

    idle : (o : Option Call) → (log_of w who).waiting ≡ o → IsFree c w who event.Begin → o ≡ None
    idle None waits free = refl
    idle (Some made) waits free = absurd (free refusal.Waiting (made, waits))

    by_event : (e : Event) → IsFree c w who e → MayTake c (section_of s who) e
    by_event event.Begin free =
        let none : (log_of w who).waiting ≡ None = idle (log_of w who).waiting refl free in (
          has.0,
          has.1,
          stands.waits ∙ none,
          (
            stands.variables,
            exchanges_of c w who,
            stands.st,
            stands.at,
            λ comes. at.2 (
              at.1,
              none,
              (
                stands.variables,
                stands.st,
                stands.begins,
                subst (λ a. ComesTo c a stands.variables (exchanges_of c w who) stands.st ended) stands.actor comes,
              ),
            ),
          ),
        )
    by_event (event.Reply reply) free = by_waiting (log_of w who).waiting refl reply free
    by_event (event.Fail fault) free = tt

-- ---- what is kept

same_kept : (notes more : List Noted) (who : Actor) (s t : Section) → IsKept notes who s → replies_of who more ≡ replies_of who notes
    → SameCalls s t → IsKept more who t
same_kept notes more who s t kept replies calls = record {
  replies = ap length calls.0 ∙ kept.replies ∙ sym (ap length replies);
  room = let room = kept.room in let more = calls.1 in omega (arith, room, more);
}

own_kept : (c : Code) (notes : List Noted) (who : Actor) (e : Event) (s t : Section) → IsKept notes who s → Takes c s e t
    → IsKept (notes ++ (who, e) ∷ []) who t
own_kept c notes who event.Begin s t kept (m, n, is_m, is_n, makes, calls, stays) =
    same_kept notes (notes ++ (who, event.Begin) ∷ []) who s t kept (own_replies who notes event.Begin ∙ append-nil (replies_of who notes)) calls
own_kept c notes who (event.Reply reply) s t kept (m, n, made, is_m, is_n, takes, calls, room, stays) = record {
  replies =
      let grown = ap length calls in
      let call = length-append s.answered.items (made ∷ []) in
      let replied = ap length (own_replies who notes (event.Reply reply)) in
      let one = length-append (replies_of who notes) (reply ∷ []) in
      let before = kept.replies in
      omega (arith, grown, call, replied, one, before);
  room = let before = kept.room in omega (arith, before, room);
}
own_kept c notes who (event.Fail fault) s t kept (machine, calls, stays) =
    same_kept notes (notes ++ (who, event.Fail fault) ∷ []) who s t kept
    (own_replies who notes (event.Fail fault) ∙ append-nil (replies_of who notes)) calls

abbrev AllKept : List Noted → Sections Section → Type 0
AllKept notes s = (who : Actor) → IsKept notes who (section_of s who)

-- the branches keep it when they begin
follow_kept : (c : Code) (s t : Sections Section) (notes : List Noted) → AllKept notes s → BranchesFollow c s t → AllKept notes t
follow_kept c s t notes kept (same, begin, stay) = by_end (is_done s.p.ending)
  where
    now : BranchesBegin c s t → AllKept notes t
    now begun actor.P = subst (IsKept notes actor.P) (sym same) (kept actor.P)
    now begun actor.A = same_kept notes notes actor.A s.a t.a (kept actor.A) refl begun.a.answered
    now begun actor.B = same_kept notes notes actor.B s.b t.b (kept actor.B) refl begun.b.answered

    by_end : (s.p.ending ≡ ending.Done) ⊎ (s.p.ending ≢ ending.Done) → AllKept notes t
    by_end (inl done) = now (begin done)
    by_end (inr goes_on) = subst (AllKept notes) (sym (stay goes_on)) kept

pub kept_after : (c : Code) (s t : Sections Section) (notes : List Noted) (who : Actor) (e : Event) → AllKept notes s → AllTake c s who e t
    → AllKept (notes ++ (who, e) ∷ []) t
kept_after c s t notes who e kept (own, takes, follow) = by_section who follow still
  where
    more : List Noted
    more = notes ++ (who, e) ∷ []

    still : AllKept more (with_section s who own)
    still =
        each_section (IsKept more) s who own (own_kept c notes who e (section_of s who) own (kept who) takes) (λ o other.
        same_kept notes more o (section_of s o) (section_of s o) (kept o) (other_replies o who notes e other) (refl, omega arith))

    by_section : (who : Actor) → AfterOwn c who (with_section s who own) t → AllKept more (with_section s who own) → AllKept more t
    by_section actor.P follow still = follow_kept c (record s { p = own }) t more still follow
    by_section _ is still = subst (AllKept more) (sym is) still

-- ---- what P leaves

pub leaves_after : (c : Code) (s : Sections Section) (notes : List Noted) (e : Event) → Goes c s notes actor.P e → LeavesAfter c s e
leaves_after c s notes e may p takes done =
    let own = own_after c (world_in s notes) actor.P e notes s.p p (before_own c s notes actor.P e may) takes in
    leaves_numbers c (with_note (world_in s notes) actor.P e own.log) (notes ++ (actor.P, e) ∷ []) p own.shows done

-- what is known of the fields of a world that the code holds
pub fields_of : (c : Code) (s : Sections Section) (notes : List Noted) (capacity : ℕ) (h : Held) → IsHeldBy c h → held_in s notes ≡ h
    → AreKept s notes capacity → Fields c s notes
fields_of c s notes capacity h held is kept = record { held = subst (IsHeldBy c) (sym is) held; kept = kept.sections }

if_some : (c : Code) (o : Option Call) → NamesATemplate c o → IfSome o (λ made. made.template < length c.templates)
if_some c None there = tt
if_some c (Some made) there = there

-- the call that waits
pub waiting_named : (c : Code) (s : Sections Section) (notes : List Noted) (who : Actor) → Fields c s notes
    → IfSome (waiting_in (section_of s who).machine) (λ made. made.template < length c.templates)
waiting_named c s notes who fields = if_some c _ (names_a_template c (world_in s notes) who _ _ (shown c s notes fields who).machine)

-- ---- what is against an event

waits_in : (s : Sections Section) (notes : List Noted) (who : Actor)
    → (log_of (world_in s notes) who).waiting ≡ waiting_in (section_of s who).machine
waits_in s notes who = ap (λ (log : Log). log.waiting) (logged s notes who)

ends_in : (s : Sections Section) (notes : List Noted) (who : Actor) → section_of (held_in s notes).endings who ≡ (section_of s who).ending
ends_in s notes actor.P = refl
ends_in s notes _ = refl

pub refused_by : (c : Code) (s : Sections Section) (notes : List Noted) (who : Actor) (e : Event) (h : Held) (found : Option StepRefusal)
    → Fields c s notes → held_in s notes ≡ h → found ≡ refusal_in c (section_of s who).ending (waiting_in (section_of s who).machine) e
    → IfSome found (IsRefused c h.world who e)
refused_by c s notes who e h None fields is finds = tt
refused_by c s notes who e h (Some r) fields is finds =
    subst (λ (h : Held). IsRefused c h.world who e r) is
    (refused_rightly c (world_in s notes) who e _ _ r (shown c s notes fields who).stands (waits_in s notes who) (sym finds))

pub taken_by : (c : Code) (s : Sections Section) (notes : List Noted) (who : Actor) (e : Event) (h : Held) (found : Option StepRefusal)
    → Fields c s notes → held_in s notes ≡ h → found ≡ refusal_in c (section_of s who).ending (waiting_in (section_of s who).machine) e
    → found ≡ None → MayStep c h who e
taken_by c s notes who e h found fields is finds none =
    let taken =
    taken_rightly c (world_in s notes) who e _ _ (shown c s notes fields who).stands (waits_in s notes who) (sym finds ∙ none) in
    subst (λ h. MayStep c h who e) is (ends_in s notes who ∙ taken.0, taken.1)

-- ---- an event that is taken

pub goes : (c : Code) (s : Sections Section) (notes : List Noted) (capacity : ℕ) (h : Held) (who : Actor) (e : Event) → IsHeldBy c h
    → held_in s notes ≡ h → AreKept s notes capacity → MayStep c h who e → Goes c s notes who e
goes c s notes capacity h who e held is kept may =
    let here = subst (λ h. MayStep c h who e) (sym is) may in
    record { fields = fields_of c s notes capacity h held is kept; running = sym (ends_in s notes who) ∙ here.0; free = here.1 }

pub step_leaves : (c : Code) (s : Sections Section) (notes : List Noted) (who : Actor) (e : Event) → Goes c s notes who e → who ≡ actor.P
    → LeavesAfter c s e
step_leaves c s notes who e may is = leaves_after c s notes e (subst (λ who. Goes c s notes who e) is may)

-- there is room for one more note
pub step_room : (c : Code) (s t : Sections Section) (notes : List Noted) (who : Actor) (e : Event) (capacity : ℕ) → Goes c s notes who e
    → AllTake c s who e t → AreKept s notes capacity → IsCode c → IsSound c → length notes < capacity
step_room c s t notes who e capacity may takes are kept sound =
    let after = held_after c s t notes who e may takes in
    let few = (folds_within_room c (notes ++ (who, e) ∷ []) (world_in t (notes ++ (who, e) ∷ [])) 0 kept sound after.held.fold).notes in
    let one = length-append notes ((who, e) ∷ []) in
    let room = are.room in
    omega (arith, few, one, room)

-- and what is kept is kept
pub step_kept : (c : Code) (s t : Sections Section) (notes more : List Noted) (who : Actor) (e : Event) (capacity new : ℕ)
    → AllTake c s who e t
    → AreKept s notes capacity → IsSmallEvent e → more ≡ notes ++ (who, e) ∷ [] → capacity ≤ new → AreKept t more new
step_kept c s t notes more who e capacity new takes are small is grows =
    subst (λ more. AreKept t more new) (sym is) (record {
      sections = kept_after c s t notes who e are.sections takes;
      room = let room = are.room in omega (arith, room, grows);
      small = All-push IsSmallNote notes (who, e) are.small small;
    })

pub step_taken : (c : Code) (s t : Sections Section) (notes more : List Noted) (who : Actor) (e : Event) (h : Held)
    → Goes c s notes who e
    → AllTake c s who e t → held_in s notes ≡ h → more ≡ notes ++ (who, e) ∷ []
    → IsStep c h.world who e (world_in t more) × IsHeldBy c (held_in t more)
step_taken c s t notes more who e h may takes is grows =
    let after = held_after c s t notes who e may takes in (
      subst (λ more. IsStep c h.world who e (world_in t more)) (sym grows)
          (subst (λ w. IsStep c w who e (world_in t (notes ++ (who, e) ∷ []))) (ap (λ (h : Held). h.world) is) after.step),
      subst (λ more. IsHeldBy c (held_in t more)) (sym grows) after.held,
    )
