-- What is handed on of one direction of a connection.
use Rattle.std.specs.Prelude.{◌≡◌, ℕ, Option, Result, Ok, Err, List, []}
use Rattle.mc_lane.specs.Streams.{StreamState, no_counts, a_failed_write, Grows, Carries}
use Rattle.mc_lane.specs.{Sending.IsPrefix, declared.stream.Broken.Broken}
use Rattle.mc_relay.specs.declared.passing.Passed.{Passed}
use Rattle.mc_relay.specs.declared.passing.Passed.TheVariants as passed

-- how much of what was read was handed on: all of it, or the first bytes where a write failed
abbrev pub IsHandedOn : Passed → List ℕ → List ℕ → Type 0
IsHandedOn passed.Ended got put = put ≡ got
IsHandedOn passed.ReadFailed got put = put ≡ got
IsHandedOn passed.WriteFailed got put = IsPrefix put got
IsHandedOn passed.Memory got put = put ≡ got

-- From the one stream these bytes were read and nothing was written to it; to the other one these were written and nothing was
-- read from it. What was written is what was read, or the front of it; and all that was read was heard, also if a write failed.
pub record Passes (from from' to to' : StreamState) (heard heard' : Option (List ℕ)) (why : Passed) : Type 0 where
  pub got : List ℕ
  pub put : List ℕ
  pub reads : Grows from.read from'.read got
  pub silent : Grows from.written from'.written []
  pub writes : Grows to.written to'.written put
  pub unread : Grows to.read to'.read []
  pub hears : Grows heard heard' got
  pub handed : IsHandedOn why got put

-- ---- what private contracts cite

-- all of the bytes were written, or a write failed after the first of them
abbrev pub WritesAll : List ℕ → StreamState → StreamState → Result (Unit {0}) Broken → Type 0
WritesAll bytes before after (Ok done) = Carries before after [] bytes no_counts
WritesAll bytes before after (Err broken) = (put : List ℕ) × IsPrefix put bytes × Carries before after [] put a_failed_write

-- all that was read so far was heard and handed on, and no call failed
pub record HasPassed (from from' to to' : StreamState) (heard heard' : Option (List ℕ)) : Type 0 where
  pub got : List ℕ
  pub reads : Carries from from' got [] no_counts
  pub writes : Carries to to' [] got no_counts
  pub hears : Grows heard heard' got
