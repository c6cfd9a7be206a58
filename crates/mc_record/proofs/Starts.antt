-- The last start of a timeline.
use Rattle.std.proofs.Common.{◌≡◌, ◌∙◌, ap, sym, true, ℕ, Option, Some, None, IfSome, List, [], ◌∷◌, ◌++◌}
use Rattle.mc_protocol.specs.declared.{request.Request.Request, reply.Reply.Reply}
use Rattle.mc_model.specs.declared.note.Note.TheVariants as note
use Rattle.mc_timeline.specs.Timelines.{ClientNote}
use Rattle.mc_record.specs.Recorded.{IsLastStart, is_start}

-- notes that stand at the end of a timeline, and are a start with its reply, are its last start
pub last_start : (timeline front back : List ClientNote) (client : ℕ) (request : Request) (reply : Reply) (made : Option (List ClientNote))
    → timeline ≡ front ++ back → back ≡ (client, note.Begin request) ∷ (client, note.Reply reply) ∷ [] → is_start request.verb ≡ true
    → IfSome made (λ notes. notes ≡ (client, note.Begin request) ∷ (client, note.Reply reply) ∷ [])
    → IfSome made (IsLastStart timeline)
last_start timeline front back client request reply None joined last starts are = tt
last_start timeline front back client request reply (Some notes) joined last starts are = record {
  earlier = front;
  client = client;
  request = request;
  reply = reply;
  starts = starts;
  notes_are = are;
  last = joined ∙ ap (λ l. front ++ l) (last ∙ sym are);
}
