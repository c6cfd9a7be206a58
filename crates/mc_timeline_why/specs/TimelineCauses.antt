-- From which place on nothing explains the requests of a timeline on one key.
use Rattle.std.specs.Prelude.{◌≡◌, ◌<◌, ◌+◌, ℕ, List, [], length}
use Rattle.mc_timeline.specs.Timelines.{ClientNote}
use Rattle.mc_linearize.specs.{Claims.ExplainsTimeline, Claims.TimelineClaim, Verdicts.IsUnexplained}
use Rattle.mc_timeline_why.specs.{Fronts.front, Fronts.overlapping, declared.cause.TimelineFinding.TimelineFinding}
use Rattle.mc_timeline_why.specs.declared.cause.TimelineFinding.TheVariants as finding

-- the note at the place is the one with which the requests on the key become unexplained: the claim explains what stands before it,
-- and nothing explains that with this note
pub record IsUnexplainedAtPlace (notes : List ClientNote) (key : List ℕ) (place : ℕ) (claim : TimelineClaim) : Type 0 where
  pub within : place < length notes
  pub before : ExplainsTimeline (front key place notes) claim
  pub behind : IsUnexplained (front key (place + 1) notes)

-- the place that is found
abbrev pub place_of : TimelineFinding → ℕ
place_of (finding.Cause cause) = cause.place
place_of (finding.Undecided place) = place

-- the places at which the requests began that overlap it
abbrev pub overlap_of : TimelineFinding → List ℕ
overlap_of (finding.Cause cause) = cause.overlap.items
overlap_of (finding.Undecided place) = []

-- what is found of the requests on a key is so; a search that was left open was one of a front of the timeline
abbrev pub IsFoundOn : List ClientNote → List ℕ → TimelineFinding → Type 0
IsFoundOn notes key (finding.Cause cause) =
    IsUnexplainedAtPlace notes key cause.place cause.explanation × (cause.overlap.items ≡ overlapping key cause.place notes)
IsFoundOn notes key (finding.Undecided place) = (0 < place) × (place < length notes)
