-- What follows for the cuts of a history.
use Rattle.std.specs.Prelude.{◌≡◌, ◌≤◌, ℕ, Some, List, slice_get}
use Rattle.mc_protocol.specs.{declared.actor.Actor.Actor, declared.reply.Reply.Reply}
use Rattle.mc_model.specs.declared.note.Note.TheVariants as note
use Rattle.mc_model.specs.Notes.{History, IsHistory, Noted}
use Rattle.mc_history.specs.Claim.{Claim}
use Rattle.mc_claims.specs.Explains.{Explains}
use Rattle.mc_why.specs.{Cuts.cut, Cuts.place_count, Causes.IsUnexplainedFrom}

-- a cut of a history is a history
abbrev pub CutsAreHistories : Type 0
CutsAreHistories = (h : History) (n : ℕ) → IsHistory h → IsHistory (cut n h)

-- the cut after the last place is the whole history
abbrev pub LastCutIsWhole : Type 0
LastCutIsWhole = (h : History) (n : ℕ) → IsHistory h → place_count h ≤ n → cut n h ≡ h

-- where notes are kept, each cut of what is explained is explained
abbrev pub CutsAreExplained : Type 0
CutsAreExplained =
    (h : History) (notes : List Noted) (claim : Claim) (n : ℕ) → IsHistory h → h.notes ≡ Some notes → Explains h claim
    → (other : Claim) × Explains (cut n h) other

-- there is at most one place from which on nothing explains a history
abbrev pub PlacesAreOne : Type 0
PlacesAreOne =
    (h : History) (place other : ℕ) (claim elsewhere : Claim) → IsUnexplainedFrom h place claim → IsUnexplainedFrom h other elsewhere
    → place ≡ other

-- where notes are kept, a reply stands at that place
abbrev pub RepliesStandAtPlaces : Type 0
RepliesStandAtPlaces =
    (h : History) (notes : List Noted) (place : ℕ) (claim : Claim) → IsHistory h → h.notes ≡ Some notes → IsUnexplainedFrom h place claim
    → (section : Actor) × (reply : Reply) × (slice_get notes place ≡ Some (section, note.Reply reply))
