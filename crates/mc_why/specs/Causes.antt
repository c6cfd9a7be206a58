-- From which place on nothing explains a history.
use Rattle.std.specs.Prelude.{◌<◌, ◌+◌, ℕ, Option}
use Rattle.mc_protocol.specs.{declared.actor.Actor.Actor, declared.sections.Sections.Sections}
use Rattle.mc_model.specs.{Sections.section_of, Notes.History}
use Rattle.mc_history.specs.Claim.{Claim}
use Rattle.mc_claims.specs.Explains.{Explains}
use Rattle.mc_explain.specs.Hopeless.{IsUnexplained}
use Rattle.mc_why.specs.declared.cause.Finding.{Finding}
use Rattle.mc_why.specs.{Cuts.cut, Cuts.place_count, Answers.IsAnswerIn, Forms.AreFormsAt, declared.answer.Answer.Answer}
use Rattle.mc_why.specs.declared.cause.Finding.TheVariants as finding

-- from this place on nothing explains the history: the claim explains what stands before it, and nothing explains any longer
-- beginning
pub record IsUnexplainedFrom (h : History) (place : ℕ) (claim : Claim) : Type 0 where
  pub within : place < place_count h
  pub before : Explains (cut place h) claim
  pub onward : (n : ℕ) → place < n → IsUnexplained (cut n h)

-- the answers are those of a cache that acts as the claim says, to each section: of the requests that stand before the place, to
-- one that was not answered, and of those up to the place, to one that has not acted
abbrev pub AreAnswersAt : History → ℕ → Claim → Sections (Option Answer) → Type 0
AreAnswersAt h place claim answers =
    (section : Actor) → IsAnswerIn (cut place h).sections (cut (place + 1) h).sections claim section (section_of answers section)

-- the place that is found
abbrev pub place_of : Finding → ℕ
place_of (finding.Cause cause) = cause.place
place_of (finding.Undecided place) = place

-- what is found is so: the cause, with its answers and its forms; an open search was one of a cut of the history
abbrev pub IsFoundOf : History → Finding → Type 0
IsFoundOf h (finding.Cause cause) =
    IsUnexplainedFrom h cause.place cause.explanation × AreAnswersAt h cause.place cause.explanation cause.answers
    × AreFormsAt h cause.place cause.forms.items
IsFoundOf h (finding.Undecided place) = (0 < place) × (place < place_count h)
