-- What of a run that shows a fault of flags is still to come. Private contracts cite it.
use Rattle.std.specs.Prelude.{◌≡◌, ℕ, Bool, true, not, List}
use Rattle.mc_protocol.specs.{declared.actor.Actor.Actor, declared.reply.Class.Class}
use Rattle.mc_script.specs.declared.step.Template.{Template}
use Rattle.mc_code.specs.{Calls.SendsAt, Code.Code}
use Rattle.mc_sound.specs.{Flags.needs, Flags.flag_along, Interleavings.Stage, Interleavings.calls_along}
use Rattle.mc_flow.specs.FlagTables.{may_be}
use Rattle.mc_verify.specs.Shown.{replies_along, LacksAlong}
use Rattle.mc_counterexample.specs.{Replays.LeadsFrom, declared.flag_replay.FlagReplay.FlagReplay}

-- these replies show that a send at the place may lack a flag that it needs at this value
abbrev pub ShowsLack : Code → Bool → Actor → ℕ → List (Actor × Class) → Type 0
ShowsLack c value actor place shown = (interleaving : List Stage) × (shown ≡ replies_along interleaving)
    × LacksAlong c value actor place interleaving

-- from the replay on, these replies do
pub record LacksFrom (c : Code) (value : Bool) (actor : Actor) (place : ℕ) (replay : FlagReplay) (shown : List (Actor × Class))
    : Type 0 where
  pub flag : ℕ
  pub before : Bool
  pub t : Template
  pub interleaving : List Stage
  pub shown_is : shown ≡ replies_along interleaving
  pub leads : LeadsFrom c replay.places actor place interleaving
  pub sends : SendsAt c actor place t
  pub begins : may_be flag before replay.flags ≡ true
  pub needed : needs flag t value ≡ true
  pub lacking : flag_along flag (calls_along interleaving) before ≡ not value
