-- A section's notes are the events of its log: so they are few, and none comes after a fault.
use Rattle.std.proofs.Common.{◌≡◌, ℕ, ◌+◌, ◌*◌, ◌≤◌, Option, Some, None, List, [], ◌∷◌, ◌++◌, length, map, refl, ap, ap₂, sym, subst, ◌∙◌, arith}
use Rattle.std.proofs.Common.{if◌then◌else◌}
use Rattle.std.proofs.{lemmas.List.append-nil, lemmas.List.Concat.flat_map-append}
use Rattle.std.specs.{List.flat_map, Option.option_to_list}
use Rattle.mc_protocol.specs.{declared.actor.Actor.Actor, declared.event.Event.Event, declared.fault.Fault.Fault}
use Rattle.mc_protocol.specs.declared.reply.Reply.{Reply}
use Rattle.mc_protocol.specs.declared.actor.Actor.TheVariants as actor
use Rattle.mc_protocol.proofs.FirstItems.{rest_is}
use Rattle.mc_protocol.specs.declared.event.Event.TheVariants as event
use Rattle.mc_code.specs.{Code.Code, declared.instr.Call.Call}
use Rattle.mc_core.specs.Logs.{Log, events_of_pair, begin_of, call_of, calls_in, events_in}
use Rattle.mc_core.specs.Worlds.{World, Noted, new_world, log_of, event_of, events_of, with_note}
use Rattle.mc_core.specs.{Histories.begin_count, Safety.IsSilentAfterFault, Steps.IsStep, Steps.IsFold}
use Rattle.mc_core.proofs.{FoldLemmas.kept_along, LogLemmas.each_section, StepLemmas.step_grows}

-- ---- the events of a log

abbrev pub AreNoted : World → Type 0
AreNoted w = (who : Actor) → events_of who w.notes ≡ events_in (log_of w who)

pub events_push : (who : Actor) (notes : List Noted) (noted : Noted)
    → events_of who (notes ++ noted ∷ []) ≡ events_of who notes ++ event_of who noted
events_push who notes noted =
    flat_map-append (event_of who) notes (noted ∷ []) ∙ ap (λ l. events_of who notes ++ l) (append-nil (event_of who noted))

pub own_event : (who : Actor) (e : Event) → event_of who (who, e) ≡ e ∷ []
own_event actor.P e = refl
own_event _ e = refl

noted_more : (w : World) (who : Actor) (e : Event) (log : Log) → AreNoted w → events_in log ≡ events_in (log_of w who) ++ e ∷ []
    → AreNoted (with_note w who e log)
noted_more w who e log noted more =
    each_section (λ o log. events_of o (w.notes ++ (who, e) ∷ []) ≡ events_in log) w.logs who log
    (events_push who w.notes (who, e) ∙ ap₂ (λ xs ys. xs ++ ys) (noted who) (own_event who e) ∙ sym more)
    (λ o other.
    events_push o w.notes (who, e)
    ∙ ap₂ (λ xs ys. xs ++ ys) (noted o) (ap (λ b. if b then e ∷ [] else []) other)
    ∙ append-nil (events_in (log_of w o)))

pub noted_step : (c : Code) (w : World) (who : Actor) (e : Event) (next : World) → AreNoted w → IsStep c w who e next → AreNoted next
noted_step c w who e next noted step =
    let grows = step_grows c w who e next step in
    subst AreNoted (sym grows.new_is) (noted_more w who e grows.log noted grows.events)

pub new_is_noted : AreNoted new_world
new_is_noted actor.P = refl
new_is_noted _ = refl

pub fold_noted : (c : Code) {events : List Noted} {w : World} {skipped : ℕ} → IsFold c new_world events w skipped → AreNoted w
fold_noted c fold = kept_along c AreNoted (noted_step c) fold new_is_noted

-- ---- how many there are

count_notes : (notes : List Noted)
    → length notes ≡ length (events_of actor.P notes) + length (events_of actor.A notes) + length (events_of actor.B notes)
count_notes [] = refl
count_notes ((actor.P, e) ∷ notes) = let h = count_notes notes in omega (arith, h)
count_notes ((actor.A, e) ∷ notes) = let h = count_notes notes in omega (arith, h)
count_notes ((actor.B, e) ∷ notes) = let h = count_notes notes in omega (arith, h)

pairs_counted : (pairs : List (Call × Reply)) (waiting : Option Call) (fault : Option Fault)
    → (begin_count (flat_map events_of_pair pairs ++ (map begin_of (option_to_list waiting) ++ map event.Fail (option_to_list fault)))
    ≡ length (map call_of pairs ++ option_to_list waiting))
    × (length (flat_map events_of_pair pairs ++ (map begin_of (option_to_list waiting) ++ map event.Fail (option_to_list fault)))
    ≤ 2 * length (map call_of pairs ++ option_to_list waiting) + 1)
pairs_counted [] None None = (refl, omega arith)
pairs_counted [] None (Some fault) = (refl, omega arith)
pairs_counted [] (Some made) None = (refl, omega arith)
pairs_counted [] (Some made) (Some fault) = (refl, omega arith)
pairs_counted ((made, reply) ∷ pairs) waiting fault =
    let rest = pairs_counted pairs waiting fault in let begun = rest.0 in let few = rest.1 in (omega (arith, begun), omega (arith, few))

-- of a log: each call begins once, and has a reply at most; and there is a fault at most
pub log_counted : (log : Log)
    → (begin_count (events_in log) ≡ length (calls_in log)) × (length (events_in log) ≤ 2 * length (calls_in log) + 1)
log_counted log = pairs_counted log.answered log.waiting log.fault

pub few_notes : (w : World) (most : ℕ) → AreNoted w → ((who : Actor) → length (calls_in (log_of w who)) ≤ most)
    → length w.notes ≤ 3 * (2 * most + 1)
few_notes w most noted few =
    let all = count_notes w.notes in omega (arith, all, few_own actor.P, few_own actor.A, few_own actor.B)
  where
    few_own : (who : Actor) → length (events_of who w.notes) ≤ 2 * most + 1
    few_own who =
        let events = (log_counted (log_of w who)).1 in let own = ap length (noted who) in let calls = few who in omega (arith, events, own, calls)

-- ---- after a fault

-- nothing comes after the fault, where only the last event may be one
last_alone : (waiting : Option Call) (fault : Option Fault) (front back : List Event) (f : Fault)
    → map begin_of (option_to_list waiting) ++ map event.Fail (option_to_list fault) ≡ front ++ event.Fail f ∷ back → back ≡ []
last_alone None None [] back f e = absurd (cc)
last_alone None None (x ∷ front) back f e = absurd (cc)
last_alone None (Some fault) [] back f e = sym (rest_is (event.Fail fault) (event.Fail f) [] back e)
last_alone None (Some fault) (x ∷ []) back f e = absurd (cc)
last_alone None (Some fault) (x ∷ y ∷ front) back f e = absurd (cc)
last_alone (Some made) fault [] back f e = absurd (cc)
last_alone (Some made) fault (x ∷ front) back f e =
    last_alone None fault front back f (rest_is event.Begin x (map event.Fail (option_to_list fault)) (front ++ event.Fail f ∷ back) e)

last_of_all : (pairs : List (Call × Reply)) (waiting : Option Call) (fault : Option Fault) (front back : List Event) (f : Fault)
    → flat_map events_of_pair pairs ++ (map begin_of (option_to_list waiting) ++ map event.Fail (option_to_list fault)) ≡ front ++ event.Fail f ∷ back
    → back ≡ []
last_of_all [] waiting fault front back f e = last_alone waiting fault front back f e
last_of_all ((made, reply) ∷ pairs) waiting fault [] back f e = absurd (cc)
last_of_all ((made, reply) ∷ pairs) waiting fault (x ∷ []) back f e = absurd (cc)
last_of_all ((made, reply) ∷ pairs) waiting fault (x ∷ y ∷ front) back f e =
    let more = flat_map events_of_pair pairs ++ (map begin_of (option_to_list waiting) ++ map event.Fail (option_to_list fault)) in
    let rest = front ++ event.Fail f ∷ back in
    last_of_all pairs waiting fault front back f
    (rest_is (event.Reply reply) y more rest (rest_is event.Begin x (event.Reply reply ∷ more) (y ∷ rest) e))

pub silent : (w : World) (who : Actor) → AreNoted w → IsSilentAfterFault w who
silent w who noted front back fault is =
    let rest = event.Fail fault ∷ events_of who back in
    let split : events_of who w.notes ≡ events_of who front ++ rest =
    ap (events_of who) is
    ∙ flat_map-append (event_of who) front ((who, event.Fail fault) ∷ back)
    ∙ ap (λ l. events_of who front ++ (l ++ events_of who back)) (own_event who (event.Fail fault)) in
    let log = log_of w who in
    last_of_all log.answered log.waiting log.fault (events_of who front) (events_of who back) fault (sym (noted who) ∙ split)
