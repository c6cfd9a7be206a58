-- Timelines: what many clients noted, in the order in which it happened, and the operations that it tells.
use Rattle.std.specs.Prelude.{ℕ, suc, Bool, true, false, not, ◌&&◌, eqb, cond, Option, Some, None, List, [], ◌∷◌, bytes_eq}
use Rattle.mc_model.specs.declared.note.Note.{Note}
use Rattle.mc_model.specs.declared.note.Note.TheVariants as note
use Rattle.mc_timeline.specs.Operations.{Answer, Operation}

-- a note, and the number of the client whose note it is
abbrev pub ClientNote : Type 0
ClientNote = ℕ × Note

-- ---- one request at a time

-- which clients wait for a reply
abbrev pub Waiting : Type 0
Waiting = ℕ → Bool

abbrev pub with_waiting : Waiting → ℕ → Bool → Waiting
with_waiting waits client waits_now other = cond (eqb other client) waits_now (waits other)

-- a client begins a request only if it waits for no reply, and gets a reply only if it waits for one
abbrev pub are_in_order : Waiting → List ClientNote → Bool
are_in_order waits [] = true
are_in_order waits ((who, note.Begin request) ∷ notes) = not (waits who) && are_in_order (with_waiting waits who true) notes
are_in_order waits ((who, note.Reply reply) ∷ notes) = waits who && are_in_order (with_waiting waits who false) notes

-- before the first note no client waits
abbrev pub is_in_order : List ClientNote → Bool
is_in_order notes = are_in_order (λ client. false) notes

-- ---- operations

-- a note with its place, which is its time
abbrev pub Placed : Type 0
Placed = ℕ × ClientNote

abbrev pub placed : ℕ → List ClientNote → List Placed
placed place [] = []
placed place (noted ∷ notes) = (place, noted) ∷ placed (suc place) notes

-- the first reply to the client
abbrev pub answer_to : ℕ → List Placed → Option Answer
answer_to client [] = None
answer_to client ((place, (who, note.Begin request)) ∷ notes) = answer_to client notes
answer_to client ((place, (who, note.Reply reply)) ∷ notes) =
    cond (eqb who client) (Some (record { time = place; reply = reply })) (answer_to client notes)

-- each request that begins, with the next reply to its client
abbrev pub operations_in : List Placed → List Operation
operations_in [] = []
operations_in ((place, (who, note.Begin request)) ∷ notes) =
    record { client = who; request = request; began = place; answer = answer_to who notes } ∷ operations_in notes
operations_in ((place, (who, note.Reply reply)) ∷ notes) = operations_in notes

abbrev pub operations_of : List ClientNote → List Operation
operations_of notes = operations_in (placed 0 notes)

-- ---- restriction to a key

-- whether a note is of a request on the key, if these clients wait for a reply to one
abbrev pub is_on_key : Waiting → List ℕ → ClientNote → Bool
is_on_key waits key (who, note.Begin request) = bytes_eq request.key key
is_on_key waits key (who, note.Reply reply) = waits who

-- the clients that, if they wait, wait for a reply to a request on the key, after one more note
abbrev pub waiting_after : Waiting → List ℕ → ClientNote → Waiting
waiting_after waits key (who, note.Begin request) = with_waiting waits who (bytes_eq request.key key)
waiting_after waits key (who, note.Reply reply) = waits

abbrev pub restricted_after : Waiting → List ℕ → List ClientNote → List ClientNote
restricted_after waits key [] = []
restricted_after waits key (noted ∷ notes) =
    let others = restricted_after (waiting_after waits key noted) key notes in
    cond (is_on_key waits key noted) (noted ∷ others) others

-- the notes of the requests on a key, in their order
abbrev pub restricted : List ℕ → List ClientNote → List ClientNote
restricted key notes = restricted_after (λ client. false) key notes
