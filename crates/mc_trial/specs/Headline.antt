-- The headline: what is true of every trial of sound code, whatever its events are.
use Rattle.std.specs.Prelude.{◌≡◌, ℕ, List}
use Rattle.mc_protocol.specs.declared.actor.Actor.{Actor}
use Rattle.mc_code.specs.Code.{Code}
use Rattle.mc_core.specs.Safety.{RanRight, AreAdmitted, IsWithinBudget, IsSilentAfterFault}
use Rattle.mc_core.specs.Worlds.{World, Noted, new_world, log_of, events_of}
use Rattle.mc_core.specs.{Histories.history_of, Logs.events_in, Steps.IsFold}
use Rattle.mc_explain.specs.{Verdicts.IsTrueOf, declared.verdict.Verdict.Verdict}

-- these events lead to this world, `skipped` of them are refused, and this is the verdict on the world's history
pub record IsTrial (c : Code) (events : List Noted) (w : World) (skipped : ℕ) (v : Verdict) : Type 0 where
  -- one event after the other is taken, or else refused, counted and skipped
  pub fold : IsFold c new_world events w skipped
  -- what was noted of a section is what its log has
  pub noted : (who : Actor) → events_of who w.notes ≡ events_in (log_of w who)
  -- no instruction meets a variable that is unbound or of another kind
  pub right : (who : Actor) → RanRight c w who
  -- each call finds the flags as it needs them, in every merge of the calls
  pub admitted : AreAdmitted c w
  -- no section makes more requests than it declared, or sends more bytes
  pub budgets : (who : Actor) → IsWithinBudget c w who
  -- none sends after its connection failed
  pub silent : (who : Actor) → IsSilentAfterFault w who
  -- an explanation names an allowed order in which the model gives every reply that was received, and where the verdict is
  -- unexplained there is none
  pub explained : IsTrueOf (history_of c w) v
