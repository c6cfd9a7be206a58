-- What is known of a history.
use Rattle.mc_model.specs.Notes.{History}
use Rattle.mc_claims.specs.Explains.{Explains}
use Rattle.mc_explain.specs.Hopeless.{IsUnexplained}
use Rattle.mc_why.specs.Causes.{IsFoundOf}
use Rattle.mc_draw.specs.declared.known.Known.{Known}
use Rattle.mc_draw.specs.declared.known.Known.TheVariants as known

-- what is known of the history is so: an explanation explains it; or nothing does, and what is found of that is so
abbrev pub IsKnownOf : History → Known → Type 0
IsKnownOf h (known.Confirmed claim) = Explains h claim
IsKnownOf h (known.Explained claim) = Explains h claim
IsKnownOf h (known.Unexplained found) = IsUnexplained h × IsFoundOf h found
IsKnownOf h known.Undecided = Unit {0}
