-- What is written for a verdict, and the exit status with it.
use Rattle.std.specs.Prelude.{ℕ, List, ◌++◌, codes}
use Rattle.mc_history.specs.{Claim.Claim, PrintedHistory.claim_text}
use Rattle.mc_explain.specs.declared.verdict.Verdict.{Verdict}
use Rattle.mc_explain.specs.declared.verdict.Verdict.TheVariants as verdict
use Rattle.mc_answers.specs.declared.status.Status.{Status}
use Rattle.mc_answers.specs.declared.status.Status.TheVariants as status

-- what is written where an explanation was found
abbrev pub explained_text : Claim → List ℕ
explained_text claim = codes "explained\n" ++ claim_text claim ++ codes "end\n"

-- what is written for a verdict
abbrev pub verdict_text : Verdict → List ℕ
verdict_text (verdict.Explained claim) = explained_text claim
verdict_text verdict.Unexplained = codes "unexplained\n"
verdict_text verdict.Undecided = codes "undecided\n"

-- the exit status of a verdict
abbrev pub verdict_status : Verdict → Status
verdict_status (verdict.Explained claim) = status.Success
verdict_status verdict.Unexplained = status.Unexplained
verdict_status verdict.Undecided = status.NoAnswer
