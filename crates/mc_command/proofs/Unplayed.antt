-- Why no code of a text is played, by what keeps its code from being played under a name.
use Rattle.std.proofs.Common.{Bool, ℕ, List, Some, inr}
use Rattle.mc_protocol.specs.Lines.{Word}
use Rattle.mc_code.specs.Code.{Code}
use Rattle.mc_answers.specs.Loading.{Spells}
use Rattle.mc_command.specs.{RunAnswers.IsUnplayed, RunAnswers.IsUnput, declared.target_code.Unplayed.Unplayed}
use Rattle.mc_command.specs.declared.target_code.Unplayed.TheVariants as unplayed

-- so no code of the text is played
pub by_name : (why : Bool) (name : Word) (text : List ℕ) (written : Code) (found : Unplayed) → Spells text written
    → IsUnput name written found → IsUnplayed why (Some name) text found
by_name why name text written (unplayed.Refused refusal) spelled is = inr (written, spelled, is why)
by_name why name text written (unplayed.KeyTooLong told) spelled (index, is) = (written, index, spelled, is)
by_name why name text written unplayed.OutOfMemory spelled is = tt
