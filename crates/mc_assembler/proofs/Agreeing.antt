-- Every script agrees with its layout.
use Rattle.std.proofs.Common.{◌≡◌, ◌↔◌, ℕ, Some, List, slice_get, refl, ◌∙◌}
use Rattle.mc_protocol.specs.declared.actor.Actor.{Actor}
use Rattle.mc_protocol.specs.declared.actor.Actor.TheVariants as actor
use Rattle.mc_script.specs.Script as script
use Rattle.mc_script.specs.WellFormed.{IsScript}
use Rattle.mc_assembler.specs.Layout.{code_place, templates_of, first_template, instructions_of, code_of}
use Rattle.mc_code.specs.{Runs.Exchange, Runs.IsRun, Runs.met_at}
use Rattle.mc_assembler.specs.{Agreement.Agrees, ScriptRuns.all_steps, ScriptRuns.all_labels, ScriptRuns.ScriptComesTo}
use Rattle.mc_code.specs.{Standing.ComesTo, States.Tagged, States.State, States.initial_state, States.Outcome}
use Rattle.mc_code.specs.Code as code
use Rattle.mc_assembler.proofs.{Backwards.comes_to_too, Forwards.forwards, StepFacts.same_outcome, WellLaid.script_laid}

-- what the instructions of a section do
abbrev CodeComesTo : script.Script → Actor → List Tagged → List Exchange → State → Outcome → Type 0
CodeComesTo s k variables exchanges st outcome =
    (p : ℕ) × IsRun (templates_of s) (instructions_of s k) 0 (initial_state variables) exchanges p st
    × (met_at (templates_of s) (slice_get (instructions_of s k) p) st ≡ Some outcome)

comes_to_same : (s : script.Script) → IsScript s → (k : Actor) (variables : List Tagged) (exchanges : List Exchange) (st : State) (outcome : Outcome)
    → ScriptComesTo s k variables exchanges st outcome ↔ CodeComesTo s k variables exchanges st outcome
comes_to_same s is k variables exchanges st outcome = (there, back)
  where
    there : ScriptComesTo s k variables exchanges st outcome → CodeComesTo s k variables exchanges st outcome
    there (p, run, met) =
        let laid = script_laid s is k in (
          code_place (all_steps s k) p,
          forwards (all_labels s k) (all_steps s k) (templates_of s) (first_template s k) laid run,
          same_outcome (all_labels s k) (all_steps s k) (templates_of s) (first_template s k) laid p st ∙ met,
        )

    back : CodeComesTo s k variables exchanges st outcome → ScriptComesTo s k variables exchanges st outcome
    back (r, run, met) =
        comes_to_too (all_labels s k) (all_steps s k) (templates_of s) (first_template s k) (script_laid s is k) (initial_state variables) st
        exchanges outcome r run met

-- the layout of a script agrees with it
pub code_agrees : (s : script.Script) → IsScript s → Agrees s (code_of s)
code_agrees s is = record { keys = refl; flags = refl; vars = refl; budgets = budgets; comes_to = comes_to }
  where
    budgets : (k : Actor) → (code.section_of (code_of s) k).budget ≡ (script.section_of s k).budget
    budgets actor.P = refl
    budgets actor.A = refl
    budgets actor.B = refl

    comes_to : (k : Actor) (variables : List Tagged) (exchanges : List Exchange) (st : State) (outcome : Outcome)
        → ScriptComesTo s k variables exchanges st outcome ↔ ComesTo (code_of s) k variables exchanges st outcome
    comes_to actor.P = comes_to_same s is actor.P
    comes_to actor.A = comes_to_same s is actor.A
    comes_to actor.B = comes_to_same s is actor.B
