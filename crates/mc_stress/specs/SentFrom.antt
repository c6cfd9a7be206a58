-- The requests of a client with their replies, note by note. No public contract cites these.
use Rattle.std.specs.Prelude.{ℕ, eqb, cond, Option, Some, None, List, [], ◌∷◌}
use Rattle.mc_protocol.specs.declared.reply.Reply.{Reply}
use Rattle.mc_model.specs.declared.note.Note.TheVariants as note
use Rattle.mc_model.specs.declared.sent.Sent.{Sent}
use Rattle.mc_timeline.specs.Timelines.{ClientNote}

-- the first reply to the client
abbrev pub reply_to : ℕ → List ClientNote → Option Reply
reply_to client [] = None
reply_to client ((who, note.Begin request) ∷ notes) = reply_to client notes
reply_to client ((who, note.Reply reply) ∷ notes) = cond (eqb who client) (Some reply) (reply_to client notes)

abbrev pub sent_from : ℕ → List ClientNote → List Sent
sent_from client [] = []
sent_from client ((who, note.Begin request) ∷ notes) =
    cond (eqb who client) (record { request = request; reply = reply_to client notes } ∷ sent_from client notes) (sent_from client notes)
sent_from client ((who, note.Reply reply) ∷ notes) = sent_from client notes
