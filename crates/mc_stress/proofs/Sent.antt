-- The requests of a client with their replies, by their operations.
use Rattle.std.proofs.Common.{◌≡◌, ℕ, suc, Bool, true, false, cond, eqb, eqb-true, Option, Some, List, [], ◌∷◌, map, filter, refl, ap, ◌∙◌}
use Rattle.mc_protocol.specs.declared.reply.Reply.{Reply}
use Rattle.mc_model.specs.declared.note.Note.TheVariants as note
use Rattle.mc_timeline.specs.Timelines.{ClientNote, answer_to, operations_in, placed}
use Rattle.mc_timeline.specs.{Explanations.received, Operations.Operation, Rules.sent_of}
use Rattle.mc_stress.specs.{Agreement.sent_by, SentFrom.reply_to, SentFrom.sent_from}

-- the first reply to a client is that of its answer
reply_is : (client from : ℕ) (notes : List ClientNote) → received (answer_to client (placed from notes)) ≡ reply_to client notes
reply_is client from [] = refl
reply_is client from ((who, note.Begin request) ∷ notes) = reply_is client (suc from) notes
reply_is client from ((who, note.Reply reply) ∷ notes) = by (eqb who client) (reply_is client (suc from) notes)
  where
    by : (b : Bool) → received (answer_to client (placed (suc from) notes)) ≡ reply_to client notes
        → received (cond b (Some (record { time = from; reply = reply })) (answer_to client (placed (suc from) notes)))
        ≡ cond b (Some reply) (reply_to client notes)
    by true later = refl
    by false later = later

from_place : (client from : ℕ) (notes : List ClientNote)
    → map sent_of (filter (λ (x : Operation). eqb x.client client) (operations_in (placed from notes))) ≡ sent_from client notes
from_place client from [] = refl
from_place client from ((who, note.Reply reply) ∷ notes) = from_place client (suc from) notes
from_place client from ((who, note.Begin request) ∷ notes) = by (eqb who client) refl (from_place client (suc from) notes)
  where
    x : Operation
    x = record { client = who; request = request; began = from; answer = answer_to who (placed (suc from) notes) }

    others : List Operation
    others = filter (λ (y : Operation). eqb y.client client) (operations_in (placed (suc from) notes))

    first : eqb who client ≡ true → sent_of x ≡ record { request = request; reply = reply_to client notes }
    first e =
        ap (λ (r : Option Reply). record { request = request; reply = r })
        (reply_is who (suc from) notes ∙ ap (λ k. reply_to k notes) (eqb-true who client e))

    by : (b : Bool) → eqb who client ≡ b → map sent_of others ≡ sent_from client notes → map sent_of (cond b (x ∷ others) others)
        ≡ cond b (record { request = request; reply = reply_to client notes } ∷ sent_from client notes) (sent_from client notes)
    by true e later = let same = first e in cc
    by false e later = later

pub sent_is : (client : ℕ) (notes : List ClientNote) → sent_by client notes ≡ sent_from client notes
sent_is client notes = from_place client 0 notes
