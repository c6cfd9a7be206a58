-- What `judge` answers to the text of a timeline.
use Rattle.std.specs.Prelude.{◌≡◌, ◌⊎◌, ◌≤◌, ℕ, Bool, true, false, not, ◌||◌, Option, Some, None, is_some, List, [], ◌∷◌, ◌++◌}
use Rattle.std.specs.{Prelude.bytes_eq, Prelude.codes, Prelude.map, List.list_any}
use Rattle.mc_protocol.specs.{Lines.Words, Lines.words_of_text, declared.lines.Separator.TheVariants.Space}
use Rattle.mc_model.specs.declared.note.Note.TheVariants as note
use Rattle.mc_timeline.specs.{TimelineText.timeline_header, Timelines.ClientNote, Timelines.restricted}
use Rattle.mc_linearize.specs.declared.verdict.{KeyVerdict.KeyVerdict, TimelineVerdict.TimelineVerdict}
use Rattle.mc_linearize.specs.{Claims.ExplainsTimeline, Claims.TimelineClaim, Verdicts.IsTrueOf, Verdicts.IsTrueOfAll, Verdicts.IsUndecided}
use Rattle.mc_linearize.specs.declared.verdict.KeyVerdict.TheVariants as of_key
use Rattle.mc_linearize.specs.declared.verdict.TimelineVerdict.TheVariants as of_all
use Rattle.mc_timeline_text.specs.TimelineTexts.{SpellsTimelineText, claim_text}
use Rattle.mc_timeline_why.specs.declared.cause.TimelineFinding.{TimelineFinding}
use Rattle.mc_timeline_why.specs.{TimelineCauses.IsFoundOn, TimelineCauses.overlap_of, TimelineCauses.place_of, TimelineWhyText.why_text}
use Rattle.mc_cli.specs.declared.args.JudgeArgs.{JudgeArgs}
use Rattle.mc_answers.specs.{JudgeAnswers.SaysNoHistory, WhyAnswers.line_after_header, declared.status.Status.Status}
use Rattle.mc_answers.specs.declared.status.Status.TheVariants as status

-- the first line of the text that counts is `history 3`
abbrev pub BeginsTimeline : List ℕ → Type 0
BeginsTimeline text = (others : List Words) × (words_of_text Space text ≡ timeline_header ∷ others)

-- no timeline is spelled by the text
abbrev pub SpellsNoTimeline : List ℕ → Type 0
SpellsNoTimeline text = (notes : List ClientNote) (claim : Option TimelineClaim) → SpellsTimelineText text notes claim → ⊥

-- whether the explanation explains the timeline is written
abbrev pub ConfirmsTimeline : List ClientNote → TimelineClaim → List ℕ → Status → Type 0
ConfirmsTimeline notes claim output ended =
    (ExplainsTimeline notes claim × (output ≡ codes "confirmed\n") × (ended ≡ status.Success))
    ⊎ ((ExplainsTimeline notes claim → ⊥) × (output ≡ codes "not confirmed\n") × (ended ≡ status.Unexplained))

-- ---- what is written for a verdict

-- the word of a verdict, and the line of a key
abbrev pub named_text : List ℕ → List ℕ → List ℕ
named_text verdict key = verdict ++ (codes "key " ++ (key ++ codes "\n"))

-- the lines of an explanation, and `end`, after these lines
abbrev pub explanation_text : List ℕ → TimelineClaim → List ℕ
explanation_text front claim = front ++ claim_text claim ++ codes "end\n"

-- for a verdict on all keys, which names the first key that is unexplained or undecided
abbrev pub timeline_text : TimelineVerdict → List ℕ
timeline_text (of_all.Explained claim) = explanation_text (codes "explained\n") claim
timeline_text (of_all.Unexplained key) = named_text (codes "unexplained\n") key
timeline_text (of_all.Undecided key) = named_text (codes "undecided\n") key

abbrev pub timeline_status : TimelineVerdict → Status
timeline_status (of_all.Explained claim) = status.Success
timeline_status (of_all.Unexplained key) = status.Unexplained
timeline_status (of_all.Undecided key) = status.NoAnswer

-- for a verdict on one key
abbrev pub key_text : List ℕ → KeyVerdict → List ℕ
key_text key (of_key.Explained claim) = explanation_text (named_text (codes "explained\n") key) claim
key_text key of_key.Unexplained = named_text (codes "unexplained\n") key
key_text key of_key.Undecided = named_text (codes "undecided\n") key

abbrev pub key_status : KeyVerdict → Status
key_status (of_key.Explained claim) = status.Success
key_status of_key.Unexplained = status.Unexplained
key_status of_key.Undecided = status.NoAnswer

-- ---- why nothing explains a key

-- what is found of the requests on the key, with the lines of the text that spells the timeline
abbrev pub IsReason : List ℕ → List ClientNote → List ℕ → List ℕ → Type 0
IsReason text notes key reasons =
    (finding : TimelineFinding) × IsFoundOn notes key finding
    × (reasons ≡ why_text (line_after_header text (place_of finding)) (map (line_after_header text) (overlap_of finding)) notes key finding)

-- what stands after the verdict on one key: where that is asked for and nothing explains its requests, what is found of them; else
-- nothing
abbrev pub AreReasonsOnKey : Bool → List ℕ → List ClientNote → List ℕ → KeyVerdict → List ℕ → Type 0
AreReasonsOnKey false text notes key found reasons = reasons ≡ []
AreReasonsOnKey true text notes key (of_key.Explained claim) reasons = reasons ≡ []
AreReasonsOnKey true text notes key of_key.Unexplained reasons = IsReason text notes key reasons
AreReasonsOnKey true text notes key of_key.Undecided reasons = reasons ≡ []

-- after the verdict on all keys, the same of the key that it names
abbrev pub AreReasons : Bool → List ℕ → List ClientNote → TimelineVerdict → List ℕ → Type 0
AreReasons false text notes found reasons = reasons ≡ []
AreReasons true text notes (of_all.Explained claim) reasons = reasons ≡ []
AreReasons true text notes (of_all.Unexplained key) reasons = IsReason text notes key reasons
AreReasons true text notes (of_all.Undecided key) reasons = reasons ≡ []

-- ---- judging

-- the most turns for a key: what the line names, or else at least 1,000,000
abbrev pub IsLimit : Option ℕ → ℕ → Type 0
IsLimit None limit = 1000000 ≤ limit
IsLimit (Some given) limit = limit ≡ given

-- a true verdict on the timeline that the text spells is written, found in at most `limit` turns for each key, undecided only if all of
-- them were used; and why nothing explains a key, where that is so and `why` asks for it
pub record JudgesTimeline (given : Option ℕ) (why : Bool) (text : List ℕ) (notes : List ClientNote) (output : List ℕ) (ended : Status)
    : Type 0 where
  pub limit : ℕ
  pub limit_is : IsLimit given limit
  pub found : TimelineVerdict
  pub turns : ℕ
  pub within : turns ≤ limit
  pub decides : IsUndecided found → turns ≡ limit
  pub true_of : IsTrueOfAll notes found
  pub reasons : List ℕ
  pub reasons_are : AreReasons why text notes found reasons
  pub output_is : output ≡ timeline_text found ++ reasons
  pub ended_is : ended ≡ timeline_status found

-- the same of the requests on one key
pub record JudgesKey (given : Option ℕ) (why : Bool) (text : List ℕ) (notes : List ClientNote) (key output : List ℕ) (ended : Status)
    : Type 0 where
  pub limit : ℕ
  pub limit_is : IsLimit given limit
  pub found : KeyVerdict
  pub turns : ℕ
  pub within : turns ≤ limit
  pub decides : found ≡ of_key.Undecided → turns ≡ limit
  pub true_of : IsTrueOf (restricted key notes) found
  pub reasons : List ℕ
  pub reasons_are : AreReasonsOnKey why text notes key found reasons
  pub output_is : output ≡ key_text key found ++ reasons
  pub ended_is : ended ≡ key_status found

-- ---- the text

-- the text's explanation is confirmed or not; or it has none, and its timeline is judged; or it is refused
abbrev pub JudgesWhole : JudgeArgs → List ℕ → List ℕ → Status → Type 0
JudgesWhole args text output ended =
    ((notes : List ClientNote) × (claim : TimelineClaim) × SpellsTimelineText text notes (Some claim)
    × ConfirmsTimeline notes claim output ended)
    ⊎ (((notes : List ClientNote) × SpellsTimelineText text notes None
    × JudgesTimeline args.limit args.how.why text notes output ended)
    ⊎ (SpellsNoTimeline text × SaysNoHistory args.how.why output × (ended ≡ status.Refused)))

-- a note is that a request on the key begins
abbrev pub begins_on : List ℕ → ClientNote → Bool
begins_on key (client, note.Begin request) = bytes_eq request.key key
begins_on key (client, note.Reply reply) = false

-- the key is judged: it is one of the timeline, which comes without an explanation
abbrev pub is_judged_on : List ℕ → List ClientNote → Option TimelineClaim → Bool
is_judged_on key notes None = list_any (begins_on key) notes
is_judged_on key notes (Some claim) = false

-- the key isn't judged, and that is written
abbrev pub refused_key_text : List ℕ → List ℕ
refused_key_text key = codes "refused key " ++ (key ++ codes "\n")

abbrev pub RefusesKey : List ℕ → List ℕ → Status → Type 0
RefusesKey key output ended = (output ≡ refused_key_text key) × (ended ≡ status.Refused)

-- the requests on the key are judged; or the key is refused, or else the text
abbrev pub JudgesOnKey : JudgeArgs → List ℕ → List ℕ → List ℕ → Status → Type 0
JudgesOnKey args key text output ended =
    ((notes : List ClientNote) × (claim : Option TimelineClaim) × SpellsTimelineText text notes claim
    × (is_judged_on key notes claim ≡ true) × JudgesKey args.limit args.how.why text notes key output ended)
    ⊎ (((notes : List ClientNote) × (claim : Option TimelineClaim) × SpellsTimelineText text notes claim
    × (is_judged_on key notes claim ≡ false) × RefusesKey key output ended)
    ⊎ (SpellsNoTimeline text × SaysNoHistory args.how.why output × (ended ≡ status.Refused)))

-- as the line asks for it
abbrev pub JudgesTimelineFor : Option (List ℕ) → JudgeArgs → List ℕ → List ℕ → Status → Type 0
JudgesTimelineFor None args = JudgesWhole args
JudgesTimelineFor (Some key) args = JudgesOnKey args key
