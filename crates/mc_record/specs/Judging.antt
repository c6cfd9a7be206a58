-- What is told of a timeline that nothing explains.
use Rattle.std.specs.Prelude.{◌≡◌, ◌++◌, ℕ, List, take}
use Rattle.mc_timeline.specs.{Timelines.ClientNote, Timelines.restricted, TimelineText.timeline_text}
use Rattle.mc_linearize.specs.Verdicts.{IsUnexplained}

-- the notes are the first ones of the timeline, and nothing explains the requests on the key among them
pub record IsUnexplainedFront (key : List ℕ) (timeline notes : List ClientNote) : Type 0 where
  pub count : ℕ
  pub front : notes ≡ take count timeline
  pub unexplained : IsUnexplained (restricted key notes)

-- the text of such notes was appended, and something after it
pub record IsEvidence (key : List ℕ) (timeline : List ClientNote) (old new : List ℕ) : Type 0 where
  pub notes : List ClientNote
  pub rest : List ℕ
  pub shown : IsUnexplainedFront key timeline notes
  pub text : new ≡ old ++ timeline_text notes ++ rest
