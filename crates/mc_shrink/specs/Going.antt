-- Which requests may go, by the places at which they begin. No public contract cites these.
use Rattle.std.specs.Prelude.{◌≡◌, ℕ, suc, nat_lt, Bool, true, false, ◌&&◌, cond, eqb, get_or, Option, Some, None, List, [], ◌∷◌}
use Rattle.mc_protocol.specs.declared.reply.Reply.{Reply}
use Rattle.mc_model.specs.declared.note.Note.TheVariants as note
use Rattle.mc_linearize.specs.Verdicts.{IsUnexplained}
use Rattle.mc_timeline.specs.Timelines.{ClientNote}
use Rattle.mc_shrink.specs.Parts.{is_unchanging, part_of, stays_by}

-- the first reply to the client
abbrev pub reply_to : ℕ → List ClientNote → Option Reply
reply_to client [] = None
reply_to client ((who, note.Begin request) ∷ notes) = reply_to client notes
reply_to client ((who, note.Reply reply) ∷ notes) = cond (eqb who client) (Some reply) (reply_to client notes)

-- a request begins with the first note, and the reply to it says that it changed nothing
abbrev pub may_first_go : List ClientNote → Bool
may_first_go [] = false
may_first_go ((who, note.Begin request) ∷ notes) = is_unchanging (reply_to who notes)
may_first_go ((who, note.Reply reply) ∷ notes) = false

-- the same of each place from this one on; the request with which the timeline begins stays
abbrev pub may_go_from : ℕ → List ClientNote → List Bool
may_go_from place [] = []
may_go_from place (noted ∷ notes) = (nat_lt 0 place && may_first_go (noted ∷ notes)) ∷ may_go_from (suc place) notes

-- whatever the one list tells, the other does
abbrev pub Tells : List Bool → List Bool → Type 0
Tells may goes = (place : ℕ) → get_or goes place false ≡ true → get_or may place false ≡ true

-- what is left of the notes when some requests went, all of which may go; nothing explains it if nothing explained the whole
pub record IsLeft (notes : List ClientNote) (goes : List Bool) (part : List ClientNote) : Type 0 where
  pub tells : Tells (may_go_from 0 notes) goes
  pub is : part ≡ part_of (stays_by goes) notes
  pub unexplained : IsUnexplained notes → IsUnexplained part
