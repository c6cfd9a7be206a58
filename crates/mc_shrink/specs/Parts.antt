-- The parts of a timeline: it without requests that changed nothing.
use Rattle.std.specs.Prelude.{◌≡◌, ℕ, suc, Bool, true, false, not, Option, Some, None, List, [], ◌∷◌, cond, get_or}
use Rattle.mc_protocol.specs.declared.reply.Reply.{Reply}
use Rattle.mc_protocol.specs.declared.reply.Reply.TheVariants as reply
use Rattle.mc_model.specs.declared.note.Note.TheVariants as note
use Rattle.mc_timeline.specs.Timelines.{ClientNote, Waiting, with_waiting, is_in_order, operations_of}
use Rattle.mc_timeline.specs.{Members.IsIn, Operations.Operation, Explanations.IsExplained, Explanations.received}

-- ---- requests that may go

-- a reply that says that its request left everything as it was: no version was made, and none removed
abbrev pub says_unchanged : Reply → Bool
says_unchanged reply.Stored = false
says_unchanged reply.NotStored = true
says_unchanged reply.Exists = true
says_unchanged reply.NotFound = true
says_unchanged (reply.Hit flags body cas) = true
says_unchanged reply.Miss = true
says_unchanged reply.Deleted = false
says_unchanged reply.Touched = true
says_unchanged (reply.Number n) = false
says_unchanged reply.NotNumber = true

-- such a reply was received: an unanswered request may have changed something
abbrev pub is_unchanging : Option Reply → Bool
is_unchanging None = false
is_unchanging (Some r) = says_unchanged r

-- ---- the notes that stay

-- whether a note stays, if these clients wait for a reply to a request that does: of a begin it is said whether its request does
abbrev pub note_stays : Waiting → Bool → ClientNote → Bool
note_stays waits stays (who, note.Begin request) = stays
note_stays waits stays (who, note.Reply reply) = waits who

-- the clients that, if they wait, wait for a reply to a request that stays, after one more note
abbrev pub staying_after : Waiting → Bool → ClientNote → Waiting
staying_after waits stays (who, note.Begin request) = with_waiting waits who stays
staying_after waits stays (who, note.Reply reply) = waits

abbrev pub part_after : Waiting → (ℕ → Bool) → ℕ → List ClientNote → List ClientNote
part_after waits stays place [] = []
part_after waits stays place (noted ∷ notes) =
    let others = part_after (staying_after waits (stays place) noted) stays (suc place) notes in
    cond (note_stays waits (stays place) noted) (noted ∷ others) others

-- the notes of the requests that stay, in their order. Which ones stay is said by the places at which they begin
abbrev pub part_of : (ℕ → Bool) → List ClientNote → List ClientNote
part_of stays notes = part_after (λ client. false) stays 0 notes

-- the requests stay that a list doesn't tell to go, by the places at which they begin
abbrev pub stays_by : List Bool → ℕ → Bool
stays_by goes place = not (get_or goes place false)

-- ---- the law

-- each of these operations that goes changed nothing
abbrev pub MayGo : (ℕ → Bool) → List Operation → Type 0
MayGo stays operations =
    (x : Operation) → IsIn x operations → stays x.began ≡ false → is_unchanging (received x.answer) ≡ true

-- if a timeline has an explanation, so has each part of it without requests that changed nothing
abbrev pub PartsAreExplained : Type 0
PartsAreExplained =
    (notes : List ClientNote) (stays : ℕ → Bool) → is_in_order notes ≡ true → MayGo stays (operations_of notes)
    → IsExplained (operations_of notes) → IsExplained (operations_of (part_of stays notes))

-- ---- smaller evidence

-- each of these operations that goes changed nothing, and the first one stays; what is left is this part
pub record IsPartOf (notes part : List ClientNote) : Type 0 where
  pub stays : ℕ → Bool
  pub first : stays 0 ≡ true
  pub may_go : MayGo stays (operations_of notes)
  pub is : part ≡ part_of stays notes
