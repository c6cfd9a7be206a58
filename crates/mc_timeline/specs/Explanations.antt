-- What it means that operations have an explanation.
use Rattle.std.specs.Prelude.{◌<◌, ◌^◌, ℕ, Option, Some, None, List, [], ◌∷◌, ◌++◌, map}
use Rattle.mc_protocol.specs.declared.reply.Reply.{Reply}
use Rattle.mc_model.specs.declared.act.Choice.{Choice}
use Rattle.mc_history.specs.Distinct.{AreDistinct}
use Rattle.mc_claims.specs.{Explains.IsReceived, Explains.start_contents, Replay.Step, Replay.replay, Replay.versions}
use Rattle.mc_timeline.specs.{Members.IsIn, Operations.Answer, Operations.Operation, Operations.IsLinearization}

-- an operation that takes effect, what is chosen, and the number of the version that it makes
pub record Effected : Type 0 where
  pub operation : Operation
  pub choice : Choice
  pub number : ℕ

abbrev pub step_of : Effected → Step
step_of e = record { request = e.operation.request; choice = e.choice; number = e.number }

abbrev pub order_of : List Effected → List Operation
order_of effected = map (λ e. e.operation) effected

-- the reply that was received, if one was
abbrev pub received : Option Answer → Option Reply
received None = None
received (Some answer) = Some answer.reply

-- every answered operation is given its reply
abbrev pub GivesEach : List Effected → List Reply → Type 0
GivesEach [] replies = Unit {0}
GivesEach (e ∷ effected) [] = ⊥
GivesEach (e ∷ effected) (reply ∷ replies) = IsReceived (received e.operation.answer) reply × GivesEach effected replies

-- these operations, in the order in which they take effect, explain all of them from these items at the start: the order is a
-- linearization, all numbers are below 2^64, the keys at the start differ, the versions of a key have different numbers, and a
-- cache that begins so gives every reply that was received
pub record Explains (operations : List Operation) (start : List (List ℕ × ℕ)) (effected : List Effected) : Type 0 where
  pub linear : IsLinearization operations (order_of effected)
  pub start_fits : (s : List ℕ × ℕ) → IsIn s start → s.1 < 2 ^ 64
  pub effected_fit : (e : Effected) → IsIn e effected → e.number < 2 ^ 64
  pub keys : AreDistinct (map (λ s. s.0) start)
  pub numbers : AreDistinct (start ++ versions (start_contents start) (map step_of effected))
  pub replies : GivesEach effected (replay (start_contents start) (map step_of effected))

-- the operations have an explanation
pub record IsExplained (operations : List Operation) : Type 0 where
  pub start : List (List ℕ × ℕ)
  pub effected : List Effected
  pub explains : Explains operations start effected
