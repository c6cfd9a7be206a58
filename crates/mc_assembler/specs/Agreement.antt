-- Code agrees with a script: both come to the same, whatever is answered.
use Rattle.std.specs.Prelude.{◌≡◌, ◌↔◌, List, length}
use Rattle.mc_protocol.specs.declared.actor.Actor.{Actor}
use Rattle.mc_script.specs.Script as script
use Rattle.mc_code.specs.Code as code
use Rattle.mc_code.specs.{Runs.Exchange, Standing.ComesTo, States.Tagged, States.State, States.Outcome}
use Rattle.mc_assembler.specs.ScriptRuns.{ScriptComesTo}

-- the keys, how many flags and variables there are, and the budgets are the script's; and with any variables at its start,
-- and after any exchanges, a section comes to the same: the same request with the same marks and number, the same fault, or
-- its end
pub record Agrees (s : script.Script) (c : code.Code) : Type 0 where
  pub keys : c.keys ≡ s.names.keys
  pub flags : c.flags ≡ length s.names.flags
  pub vars : c.vars ≡ length s.names.vars
  pub budgets : (actor : Actor) → (code.section_of c actor).budget ≡ (script.section_of s actor).budget
  pub comes_to : (actor : Actor) (variables : List Tagged) (exchanges : List Exchange) (st : State) (outcome : Outcome)
      → ScriptComesTo s actor variables exchanges st outcome ↔ ComesTo c actor variables exchanges st outcome
