-- The operations of many clients, with the times at which they began and were answered, and their linearizations.
use Rattle.std.specs.Prelude.{◌≡◌, ◌<◌, ℕ, true, is_some, Option, Some, None, List, ◌∷◌, ◌++◌, filter, bytes_eq}
use Rattle.mc_protocol.specs.declared.{request.Request.Request, reply.Reply.Reply}
use Rattle.mc_history.specs.Distinct.{AreDistinct}
use Rattle.mc_timeline.specs.Members.{IsIn}

-- a reply, and the time at which it came
pub record Answer : Type 0 where
  pub time : ℕ
  pub reply : Reply

-- a client's request, the time at which it began, and its answer, if one came
pub record Operation : Type 0 where
  pub client : ℕ
  pub request : Request
  pub began : ℕ
  pub answer : Option Answer

-- the answer came before this time
abbrev pub CameBefore : Option Answer → ℕ → Type 0
CameBefore None time = ⊥
CameBefore (Some answer) time = answer.time < time

-- the real-time order: the first operation was answered before the second began
abbrev pub Precedes : Operation → Operation → Type 0
Precedes x y = CameBefore x.answer y.began

-- an order of some of the operations, without a double: each answered one is in it, and an operation that precedes another one
-- in real time stands before it
pub record IsLinearization (operations order : List Operation) : Type 0 where
  pub distinct : AreDistinct order
  pub only : (x : Operation) → IsIn x order → IsIn x operations
  pub answered : (x : Operation) → IsIn x operations → is_some x.answer ≡ true → IsIn x order
  pub real_time : (front : List Operation) (y : Operation) (back : List Operation) → order ≡ front ++ y ∷ back
      → (x : Operation) → IsIn x operations → Precedes x y → IsIn x front

-- the operations on a key, in their order
abbrev pub on_key : List ℕ → List Operation → List Operation
on_key key operations = filter (λ x. bytes_eq x.request.key key) operations
