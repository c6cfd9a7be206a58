-- What `judge` answers to a text, as the line asks for it.
use Rattle.std.specs.Prelude.{◌≡◌, ◌⊎◌, ℕ, Bool, true, false, Option, Some, None, List, ◌++◌, replicate}
use Rattle.mc_model.specs.Notes.{History}
use Rattle.mc_history.specs.{Claim.Claim, HistoryText.SpellsHistory}
use Rattle.mc_convert.specs.Excerpts.{StandsIn}
use Rattle.mc_cli.specs.declared.args.{JudgeArgs.JudgeArgs, Search.Search}
use Rattle.mc_answers.specs.JudgeAnswers.{Judges, SaysNoHistory, SpellsNone}
use Rattle.mc_answers.specs.TimelineAnswers.{BeginsTimeline, JudgesTimelineFor, RefusesKey}
use Rattle.mc_answers.specs.{InJson.AnswersIn, declared.status.Status.Status}
use Rattle.mc_answers.specs.declared.status.Status.TheVariants as status

-- a history has no keys that are judged alone: the key is refused, or else the text
abbrev pub JudgesNoKey : Bool → List ℕ → List ℕ → List ℕ → Status → Type 0
JudgesNoKey why key text output ended =
    ((h : History) × (claim : Option Claim) × SpellsHistory text h claim × RefusesKey key output ended)
    ⊎ (SpellsNone text × SaysNoHistory why output × (ended ≡ status.Refused))

abbrev pub JudgesHistoryFor : Option (List ℕ) → Search → List ℕ → List ℕ → Status → Type 0
JudgesHistoryFor None how = Judges how
JudgesHistoryFor (Some key) how = JudgesNoKey how.why key

-- what begins as a timeline is judged as one, and any other text as a history
abbrev pub JudgesText : JudgeArgs → List ℕ → List ℕ → Status → Type 0
JudgesText args text output ended =
    (BeginsTimeline text × JudgesTimelineFor args.key args text output ended)
    ⊎ ((BeginsTimeline text → ⊥) × JudgesHistoryFor args.key args.how text output ended)

-- of what a run or a report has printed, a part is judged, after blank lines in place of the lines before it
pub record JudgesPart (args : JudgeArgs) (text output : List ℕ) (ended : Status) : Type 0 where
  pub part : List ℕ
  pub lines : ℕ
  pub stands : StandsIn text part
  pub judged : JudgesText args (replicate lines 10 ++ part) output ended

-- the whole text is judged, or a part of it
abbrev pub JudgesIn : Bool → JudgeArgs → List ℕ → List ℕ → Status → Type 0
JudgesIn false args text = JudgesText args text
JudgesIn true args text = JudgesPart args text

-- as the line asks for it
abbrev pub JudgesAs : JudgeArgs → List ℕ → List ℕ → Status → Type 0
JudgesAs args text = AnswersIn args.json (JudgesIn args.run args text)
