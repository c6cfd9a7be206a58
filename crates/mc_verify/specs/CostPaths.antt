-- Paths that cost what a table of costs says, and their replies. What private contracts cite.
use Rattle.std.specs.Prelude.{◌≡◌, ℕ, ◌≤◌, List, ◌++◌}
use Rattle.mc_protocol.specs.{declared.actor.Actor.Actor, declared.reply.Class.Class}
use Rattle.mc_code.specs.{Calls.LeadsIn, Calls.calls_of, Code.Code, Paths.Edge}
use Rattle.mc_sound.specs.{Costs.cost_along, Interleavings.staged, declared.measure.Measure.Measure}
use Rattle.mc_verify.specs.Shown.{replies_along, front, IsBegun}

-- these are the replies of a path to the place that costs this or more; for a branch after those of a complete path of P
pub record CostsAlong (c : Code) (actor : Actor) (measure : Measure) (place cost : ℕ) (replies : List (Actor × Class)) : Type 0 where
  pub before : List Edge
  pub edges : List Edge
  pub begun : IsBegun c actor before
  pub leads : LeadsIn c actor edges place
  pub enough : cost ≤ cost_along c measure (calls_of edges)
  pub replies_are : replies ≡ replies_along (front actor before ++ staged actor edges)
