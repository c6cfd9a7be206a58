-- What of a run that shows a fault of a budget is still to come. Private contracts cite it.
use Rattle.std.specs.Prelude.{◌≡◌, ℕ, ◌+◌, ◌<◌, List, [], ◌∷◌, if◌then◌else◌}
use Rattle.mc_protocol.specs.{declared.actor.Actor.Actor, declared.reply.Class.Class}
use Rattle.mc_script.specs.declared.step.Template.{Template}
use Rattle.mc_code.specs.{Calls.SendsAt, Code.Code, Code.section_of}
use Rattle.mc_sound.specs.{Costs.cost_of, Costs.bound_of, Interleavings.Stage, declared.measure.Measure.Measure}
use Rattle.mc_counterexample.specs.{declared.cost_replay.CostReplay.CostReplay, Replays.is_of, Replays.LeadsFrom}
use Rattle.mc_verify.specs.Shown.{replies_along, ExceedsAlong}

-- these replies show that the requests up to a send at the place exceed the section's budget
abbrev pub ShowsExcess : Code → Measure → Actor → ℕ → List (Actor × Class) → Type 0
ShowsExcess c measure actor place shown = (interleaving : List Stage) × (shown ≡ replies_along interleaving)
    × ExceedsAlong c measure actor place interleaving

-- what a call of this section costs the named one
abbrev pub own_cost : Code → Measure → Actor → Actor → Template → ℕ
own_cost c measure named actor t = if is_of named actor then cost_of c measure t else 0

-- what the calls of the named section along an interleaving cost
abbrev pub cost_in : Code → Measure → Actor → List Stage → ℕ
cost_in c measure named [] = 0
cost_in c measure named (stage ∷ interleaving) = own_cost c measure named stage.0 stage.1.0 + cost_in c measure named interleaving

-- from the replay on, these replies show it
pub record ExceedsFrom (c : Code) (measure : Measure) (actor : Actor) (place : ℕ) (replay : CostReplay) (shown : List (Actor × Class))
    : Type 0 where
  pub t : Template
  pub interleaving : List Stage
  pub shown_is : shown ≡ replies_along interleaving
  pub leads : LeadsFrom c replay.places actor place interleaving
  pub sends : SendsAt c actor place t
  pub exceeds : bound_of measure (section_of c actor).budget < replay.cost + (cost_in c measure actor interleaving + cost_of c measure t)
