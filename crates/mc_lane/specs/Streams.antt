-- What contracts see of a stream, and what a read and a write do to it.
use Rattle.std.specs.Prelude.{◌≡◌, ℕ, ◌+◌, ◌^◌, ◌<◌, ◌≤◌, ◌==◌, Bool, false, ◌&&◌, nat_lt, Option, Some, None, Result, Ok, Err}
use Rattle.std.specs.Prelude.{List, [], ◌++◌, length, take, if◌then◌else◌}
use Rattle.mc_lane.specs.declared.stream.Counts.{Counts}

-- the bytes that were read from the stream and written to it so far, each where the stream tells them; what it counted; and
-- whether its last read found the end
pub record StreamState : Type 0 where
  pub read : Option (List ℕ)
  pub written : Option (List ℕ)
  pub counts : Counts
  pub at_end : Bool

-- ---- what is counted

abbrev pub no_counts : Counts
no_counts = record { failed_reads = 0; failed_writes = 0; ends = 0 }

abbrev pub a_failed_read : Counts
a_failed_read = record no_counts { failed_reads = 1 }

abbrev pub a_failed_write : Counts
a_failed_write = record no_counts { failed_writes = 1 }

abbrev pub an_end : Counts
an_end = record no_counts { ends = 1 }

-- whether a read found the end that brought this many bytes, by the room that it had: it had room and brought none
abbrev pub finds_end : ℕ → ℕ → Bool
finds_end room brought = nat_lt 0 room && (brought == 0)

-- how many ends it found
abbrev pub ends_of_read : ℕ → ℕ → ℕ
ends_of_read room brought = if finds_end room brought then 1 else 0

abbrev pub counts_of_read : ℕ → ℕ → Counts
counts_of_read room brought = record no_counts { ends = ends_of_read room brought }

-- one more of each can be counted
abbrev pub CanFail : StreamState → Type 0
CanFail state =
    (state.counts.failed_reads + 1 < 2 ^ 64) × (state.counts.failed_writes + 1 < 2 ^ 64) × (state.counts.ends + 1 < 2 ^ 64)

-- ---- what is carried

-- bytes that the stream tells grow by these; what it does not tell stays untold
abbrev pub Grows : Option (List ℕ) → Option (List ℕ) → List ℕ → Type 0
Grows None None bytes = Unit {0}
Grows (Some before) (Some after) bytes = after ≡ before ++ bytes
Grows None (Some after) bytes = ⊥
Grows (Some before) None bytes = ⊥

-- from one state to the other these bytes were read and these were written, and this was counted
pub record Carries (before after : StreamState) (read written : List ℕ) (counts : Counts) : Type 0 where
  pub reads : Grows before.read after.read read
  pub writes : Grows before.written after.written written
  pub failed_reads : after.counts.failed_reads ≡ before.counts.failed_reads + counts.failed_reads
  pub failed_writes : after.counts.failed_writes ≡ before.counts.failed_writes + counts.failed_writes
  pub ends : after.counts.ends ≡ before.counts.ends + counts.ends

-- a read put its bytes at the front of the buffer, or found the end; or it failed, and read nothing
abbrev pub Reads : {E : Type 0} → StreamState → StreamState → List ℕ → Result ℕ E → Type 0
Reads before after buffer (Ok n) =
    (n ≤ length buffer) × Carries before after (take n buffer) [] (counts_of_read (length buffer) n)
    × (after.at_end ≡ finds_end (length buffer) n)
Reads before after buffer (Err e) = Carries before after [] [] a_failed_read × (after.at_end ≡ false)

-- a write took some of the first bytes, or there was none to take; or it failed, and took nothing
abbrev pub Writes : {E : Type 0} → StreamState → StreamState → List ℕ → Result ℕ E → Type 0
Writes before after bytes (Ok n) =
    (n ≤ length bytes) × (0 < length bytes → 0 < n) × Carries before after [] (take n bytes) no_counts × (after.at_end ≡ before.at_end)
Writes before after bytes (Err e) = Carries before after [] [] a_failed_write × (after.at_end ≡ before.at_end)

-- a stream that tells no bytes, and counted this
abbrev pub silent : Counts → Bool → StreamState
silent counts at_end = record { read = None; written = None; counts = counts; at_end = at_end }
