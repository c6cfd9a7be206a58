-- What is recorded of a world grows with it, by what is noted.
use Rattle.std.proofs.Common.{◌≡◌, ℕ, ◌+◌, ◌<◌, ◌≤◌, List, [], ◌∷◌, ◌++◌, length, slice_index_or, refl, ap, ap₂, sym, ◌∙◌, arith}
use Rattle.std.proofs.{lemmas.List.append-nil, lemmas.List.append_assoc, lemmas.List.get_or_append_left, lemmas.List.Concat.flat_map-append}
use Rattle.mc_protocol.specs.{declared.actor.Actor.Actor, declared.event.Event.Event}
use Rattle.mc_protocol.specs.declared.event.Event.TheVariants as event
use Rattle.mc_code.specs.{Code.Code, declared.instr.Call.Call}
use Rattle.mc_model.specs.declared.note.Note.TheVariants as note
use Rattle.mc_core.specs.Histories.{begin_count, no_call, call_after, recorded_after, recorded_from, record_of}
use Rattle.mc_core.specs.Logs.{Log, calls_in, request_of}
use Rattle.mc_core.specs.Worlds.{World, Noted, log_of, event_of, events_of, with_note}
use Rattle.mc_core.proofs.NotedEvents.{AreNoted, events_push, own_event, log_counted}

-- ---- how many calls begin

-- how many calls of the section these notes begin
abbrev pub begun_in : Actor → List Noted → ℕ
begun_in who notes = begin_count (events_of who notes)

count_append : (xs ys : List Event) → begin_count (xs ++ ys) ≡ begin_count xs + begin_count ys
count_append [] ys = omega arith
count_append (event.Begin ∷ xs) ys = let e = count_append xs ys in omega (arith, e)
count_append (event.Reply reply ∷ xs) ys = count_append xs ys
count_append (event.Fail fault ∷ xs) ys = count_append xs ys

pub begun_append : (who : Actor) (xs ys : List Noted) → begun_in who (xs ++ ys) ≡ begun_in who xs + begun_in who ys
begun_append who xs ys = ap begin_count (flat_map-append (event_of who) xs ys) ∙ count_append (events_of who xs) (events_of who ys)

pub begun_more : (who : Actor) (front : List Noted) (noted : Noted)
    → begun_in who (front ++ noted ∷ []) ≡ begun_in who front + begin_count (event_of who noted)
begun_more who front noted =
    ap begin_count (events_push who front noted) ∙ count_append (events_of who front) (event_of who noted)

pub begun_first : (who : Actor) (noted : Noted) (notes : List Noted)
    → begun_in who (noted ∷ notes) ≡ begin_count (event_of who noted) + begun_in who notes
begun_first who noted notes = count_append (event_of who noted) (events_of who notes)

pub begun_all : (w : World) (who : Actor) → AreNoted w → begun_in who w.notes ≡ length (calls_in (log_of w who))
begun_all w who noted = ap begin_count (noted who) ∙ (log_counted (log_of w who)).0

-- ---- what is recorded grows

-- the second world has the calls of the first, and perhaps more
abbrev pub GrowsTo : World → World → Type 0
GrowsTo w v = (who : Actor) → (more : List Call) × (calls_in (log_of v who) ≡ calls_in (log_of w who) ++ more)

after_grown : (c : Code) (w v : World) (front : List Noted) (noted : Noted) → GrowsTo w v
    → ((who : Actor) → begun_in who front + begin_count (event_of who noted) ≤ length (calls_in (log_of w who)))
    → recorded_after c v front noted ≡ recorded_after c w front noted
after_grown c w v front (who, event.Begin) grows few =
    let calls = calls_in (log_of w who) in
    let one = ap begin_count (own_event who event.Begin) in
    let most = few who in
    let inside : begun_in who front < length calls = omega (arith, one, most) in
    let same : call_after v who front ≡ call_after w who front =
    ap (λ l. slice_index_or l (begun_in who front) no_call) (grows who).1
    ∙ get_or_append_left calls (grows who).0 no_call (begun_in who front) inside in
    ap (λ made. (who, note.Begin (request_of c made)) ∷ []) same
after_grown c w v front (who, event.Reply reply) grows few = refl
after_grown c w v front (who, event.Fail fault) grows few = refl

from_grown : (c : Code) (w v : World) (front notes : List Noted) → GrowsTo w v
    → ((who : Actor) → begun_in who front + begun_in who notes ≤ length (calls_in (log_of w who)))
    → recorded_from c v front notes ≡ recorded_from c w front notes
from_grown c w v front [] grows few = refl
from_grown c w v front (noted ∷ notes) grows few =
    ap₂ (λ x y. x ++ y)
    (after_grown c w v front noted grows (λ who. let most = few who in let first = begun_first who noted notes in omega (arith, most, first)))
    (from_grown c w v (front ++ noted ∷ []) notes grows
    (λ who. let most = few who in let first = begun_first who noted notes in let more = begun_more who front noted in omega (arith, most, first, more)))

pub from_append : (c : Code) (w : World) (front xs ys : List Noted)
    → recorded_from c w front (xs ++ ys) ≡ recorded_from c w front xs ++ recorded_from c w (front ++ xs) ys
from_append c w front [] ys = ap (λ l. recorded_from c w l ys) (sym (append-nil front))
from_append c w front (x ∷ xs) ys =
    ap (λ l. recorded_after c w front x ++ l)
    (from_append c w (front ++ x ∷ []) xs ys ∙ ap (λ l. recorded_from c w (front ++ x ∷ []) xs ++ recorded_from c w l ys) (append_assoc front (x ∷ []) xs))
    ∙ sym (append_assoc (recorded_after c w front x) (recorded_from c w (front ++ x ∷ []) xs) (recorded_from c w (front ++ (x ∷ xs)) ys))

pub record_grown : (c : Code) (w : World) (who : Actor) (e : Event) (log : Log) → AreNoted w → GrowsTo w (with_note w who e log)
    → record_of c (with_note w who e log) ≡ record_of c w ++ recorded_after c (with_note w who e log) w.notes (who, e)
record_grown c w who e log noted grows =
    let v = with_note w who e log in
    from_append c v [] w.notes ((who, e) ∷ [])
    ∙ ap₂ (λ x y. x ++ y) (from_grown c w v [] w.notes grows (λ o. let all = begun_all w o noted in omega (arith, all)))
    (append-nil (recorded_after c v w.notes (who, e)))
