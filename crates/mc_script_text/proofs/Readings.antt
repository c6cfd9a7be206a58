-- What the answer of the reader says: it is a script exactly where the text spells one, and that script is well formed.
use Rattle.std.proofs.Common.{◌≡◌, ◌≢◌, ℕ, List, Some, None, Result, Ok, Err}
use Rattle.std.specs.Result.{IfOk, IfErr}
use Rattle.mc_script_text.specs.{Values.SpaceOrTab, Values.ScriptFault, Reading.Says, ScriptText.SpellsScript, Reading.script_in}
use Rattle.mc_script_text.specs.Values.kind
use Rattle.mc_protocol.specs.Lines.{words_of_text}
use Rattle.mc_script.specs.{Script.Script, WellFormed.IsScript}
use Rattle.mc_script_text.proofs.{Formed.script-formed, WholeScript.script-read, WholeScript.script_spelled}

pub script_formed : (text : List ℕ) (s : Script) → script_in (words_of_text SpaceOrTab text) ≡ Some s → IsScript s
script_formed text s h = script-formed text s (script_spelled text s h)

pub none_spelled : (text : List ℕ) → script_in (words_of_text SpaceOrTab text) ≡ None → (s : Script) → SpellsScript text s → ⊥
none_spelled text none s spelled = let some = script-read text s spelled in cc

-- the script that is read is spelled
pub is_spelled : (text : List ℕ) (result : Result Script ScriptFault) → Says (λ s. s) result (script_in (words_of_text SpaceOrTab text))
    → IfOk result (SpellsScript text)
is_spelled text (Ok s) h = script_spelled text s h
is_spelled text (Err fault) h = tt

-- and it is well formed
pub is_formed : (text : List ℕ) (result : Result Script ScriptFault) → Says (λ s. s) result (script_in (words_of_text SpaceOrTab text))
    → IfOk result IsScript
is_formed text (Ok s) h = script-formed text s (script_spelled text s h)
is_formed text (Err fault) h = tt

-- where reading failed, and not for want of memory, no script is spelled
pub is_unspelled : (text : List ℕ) (result : Result Script ScriptFault) → Says (λ s. s) result (script_in (words_of_text SpaceOrTab text))
    → IfErr result (λ fault. fault.kind ≢ kind.OutOfMemory → (s : Script) → SpellsScript text s → ⊥)
is_unspelled text (Ok s) h = tt
is_unspelled text (Err fault) h = λ real. none_spelled text (h real)
