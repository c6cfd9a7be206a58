-- What a lane sends of a request.
use Rattle.std.specs.Prelude.{◌≡◌, ℕ, ◌<◌, true, Result, Ok, Err, List, [], ◌++◌, length}
use Rattle.mc_protocol.specs.declared.fault.Fault.{Fault}
use Rattle.mc_protocol.specs.declared.fault.Fault.TheVariants as fault
use Rattle.mc_lane.specs.Streams.{StreamState, no_counts, a_failed_read, a_failed_write, an_end, Carries}
use Rattle.mc_lane.specs.declared.stream.Counts.{Counts}

-- these are the first bytes of the text, perhaps all of them
abbrev pub IsPrefix : List ℕ → List ℕ → Type 0
IsPrefix bytes text = (rest : List ℕ) × (text ≡ bytes ++ rest)

-- these are the first bytes of the text, and not all of them
abbrev pub IsProperPrefix : List ℕ → List ℕ → Type 0
IsProperPrefix bytes text = (rest : List ℕ) × (0 < length rest) × (text ≡ bytes ++ rest)

-- what the stream counts where the lane comes to this
abbrev pub counts_of : {T : Type 0} → Result T Fault → Counts
counts_of (Err fault.WriteFailed) = a_failed_write
counts_of (Err fault.ReadFailed) = a_failed_read
counts_of (Err fault.Ended) = an_end
counts_of _ = no_counts

-- the lane comes to the end of its stream only at the last of its reads
abbrev pub EndsLast : {T : Type 0} → Result T Fault → StreamState → Type 0
EndsLast (Err fault.Ended) after = after.at_end ≡ true
EndsLast _ after = Unit {0}

-- what was written where the sending came to this: all of the request, less where a write failed, and nothing where there was no memory
abbrev pub IsWrittenOf : List ℕ → List ℕ → Result (Unit {0}) Fault → Type 0
IsWrittenOf request written (Ok done) = written ≡ request
IsWrittenOf request written (Err fault.WriteFailed) = IsProperPrefix written request
IsWrittenOf request written (Err fault.Memory) = written ≡ []
IsWrittenOf request written (Err _) = ⊥

-- a request was sent: what was written of it is recorded
pub record Sends (request old new : List ℕ) (before after : StreamState) (result : Result (Unit {0}) Fault) : Type 0 where
  pub written : List ℕ
  pub recorded : new ≡ old ++ written
  pub carries : Carries before after [] written (counts_of result)
  pub outcome : IsWrittenOf request written result
