-- What is recorded of a key, and when its timeline starts and ends.
use Rattle.std.specs.Prelude.{◌≡◌, ℕ, ◌==◌, Bool, true, false, ◌&&◌, ◌||◌, Option, Some, None, is_none, List, [], ◌∷◌, ◌++◌}
use Rattle.mc_protocol.specs.declared.{request.Request.Request, request.Verb.Verb, reply.Reply.Reply}
use Rattle.mc_model.specs.declared.note.Note.TheVariants as note
use Rattle.mc_model.specs.History.{is_delete}
use Rattle.mc_timeline.specs.{Rules.is_set, Timelines.ClientNote}

-- how many requests of the key may still act on it, since no reply has come to them; and the notes of its timeline, if it has one
pub record Recorded : Type 0 where
  pub acting : ℕ
  pub notes : Option (List ClientNote)

-- a timeline starts with a delete or a set, which leave nothing of what was there
abbrev pub is_start : Verb → Bool
is_start verb = is_delete verb || is_set verb

-- a key's timeline may start: it has none, and no other request may act on the key
abbrev pub may_start : Recorded → Verb → Bool
may_start key verb = is_none key.notes && (key.acting == 0) && is_start verb

-- one more note comes after those of the timeline, if there is one
abbrev pub grown : Option (List ClientNote) → ClientNote → Option (List ClientNote)
grown None noted = None
grown (Some notes) noted = Some (notes ++ noted ∷ [])

-- the notes are the last ones of the timeline: a start, and its reply
pub record IsLastStart (timeline notes : List ClientNote) : Type 0 where
  pub earlier : List ClientNote
  pub client : ℕ
  pub request : Request
  pub reply : Reply
  pub starts : is_start request.verb ≡ true
  pub notes_are : notes ≡ (client, note.Begin request) ∷ (client, note.Reply reply) ∷ []
  pub last : timeline ≡ earlier ++ notes

-- a timeline was cut: the next one has its last start alone, or there is none
abbrev pub IsCut : Option (List ClientNote) → Option (List ClientNote) → Type 0
IsCut old None = Unit {0}
IsCut None (Some notes) = ⊥
IsCut (Some timeline) (Some notes) = IsLastStart timeline notes

-- A reply was noted after these notes: it comes after them; or the timeline ended with it, which is the answer then, and was cut.
abbrev pub IsAnswered : Option (List ClientNote) → ClientNote → Option (List ClientNote) → Option (List ClientNote) → Type 0
IsAnswered old noted new None = new ≡ grown old noted
IsAnswered old noted new (Some timeline) = (grown old noted ≡ Some timeline) × IsCut (Some timeline) new
