-- What `judge` answers to the text of a history whose clients are P, A and B.
use Rattle.std.specs.Prelude.{◌≡◌, ◌≢◌, ◌⊎◌, ℕ, Bool, Option, Some, None, List, ◌++◌, codes}
use Rattle.mc_model.specs.{Notes.History, declared.rules.HistoryKind.HistoryKind}
use Rattle.mc_model.specs.declared.rules.HistoryKind.TheVariants as kind
use Rattle.mc_history.specs.{Claim.Claim, HistoryText.SpellsHistory}
use Rattle.mc_claims.specs.Explains.{Explains}
use Rattle.mc_explain.specs.{Verdicts.IsStated, Verdicts.IsTrueOf, Verdicts.IsWithin, declared.verdict.Verdict.Verdict}
use Rattle.mc_hints.specs.Refusals.{history_refusal}
use Rattle.mc_answers.specs.Verdicts.{verdict_status, verdict_text}
use Rattle.mc_answers.specs.{Refusing.IsRefusal, WhyAnswers.IsWhy, WhyAnswers.line_in_text, declared.status.Status.Status}
use Rattle.mc_cli.specs.declared.args.Search.{Search}
use Rattle.mc_answers.specs.declared.status.Status.TheVariants as status

-- whether the explanation explains the history is written
abbrev pub Confirms : History → Claim → List ℕ → Status → Type 0
Confirms h claim output ended =
    (Explains h claim × (output ≡ codes "confirmed\n") × (ended ≡ status.Success))
    ⊎ ((Explains h claim → ⊥) × (output ≡ codes "not confirmed\n") × (ended ≡ status.Unexplained))

-- a true verdict on the history that the text spells is written, found in at most `how.limit` turns, and why nothing explains the
-- history, where that is so and `how.why` asks for it
abbrev pub JudgesHistory : Search → List ℕ → History → List ℕ → Status → Type 0
JudgesHistory how text h output ended = (found : Verdict) × (turns : ℕ) × (reasons : List ℕ)
    × IsTrueOf h found × IsStated h found × IsWithin how.limit found turns × IsWhy how.why (line_in_text text h) h found reasons
    × (output ≡ verdict_text found ++ reasons) × (ended ≡ verdict_status found)

-- no history is spelled by the text
abbrev pub SpellsNone : List ℕ → Type 0
SpellsNone text = (h : History) (claim : Option Claim) → SpellsHistory text h claim → ⊥

-- the text says that it is no history, by a fault, with a hint where `why` asks for one
abbrev pub SaysNoHistory : Bool → List ℕ → Type 0
SaysNoHistory why text =
    (fault : HistoryKind) × (line : ℕ) × (fault ≢ kind.OutOfMemory) × IsRefusal why (history_refusal fault line) text

-- the text's explanation is confirmed or not; or it has none, and its history is judged; or it is refused
abbrev pub Judges : Search → List ℕ → List ℕ → Status → Type 0
Judges how text output ended =
    ((h : History) × (claim : Claim) × SpellsHistory text h (Some claim) × Confirms h claim output ended)
    ⊎ (((h : History) × SpellsHistory text h None × JudgesHistory how text h output ended)
    ⊎ (SpellsNone text × SaysNoHistory how.why output × (ended ≡ status.Refused)))
