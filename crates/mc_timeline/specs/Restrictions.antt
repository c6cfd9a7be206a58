-- What is so of the restriction of a timeline to a key.
use Rattle.std.specs.Prelude.{◌≡◌, ℕ, Bool, false, get_or, List}
use Rattle.mc_timeline.specs.{Members.IsIn, Operations.Operation, Timelines.Waiting}

-- each of the operations is on the key
abbrev pub HaveKey : List ℕ → List Operation → Type 0
HaveKey key operations = (x : Operation) → IsIn x operations → x.request.key ≡ key

-- which clients wait, if the list says so of each; no others do
abbrev pub waiting_in : List Bool → Waiting
waiting_in waiting client = get_or waiting client false
