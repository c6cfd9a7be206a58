-- A call of a stream counts at most one of each: so a stream that has had few calls can count one more.
use Rattle.std.proofs.Common.{◌≡◌, ◌<◌, ◌≤◌, ◌+◌, ◌==◌, ◌&&◌, ℕ, nat_lt, Bool, true, false, List, [], length, take, arith, if◌then◌else◌}
use Rattle.std.specs.Prelude.{Result, Ok, Err}
use Rattle.mc_lane.specs.Streams.{CanFail, Carries, Reads, StreamState, Writes, a_failed_read, a_failed_write, counts_of_read, no_counts}
use Rattle.mc_lane.specs.{declared.stream.Counts.Counts, MemoryStreams.Memory, MemoryStreams.state_of}

-- no count is above this
abbrev pub IsCounted : ℕ → StreamState → Type 0
IsCounted n state = (state.counts.failed_reads ≤ n) × (state.counts.failed_writes ≤ n) × (state.counts.ends ≤ n)

-- a stream in memory that was just made
pub none_counted : (stream : Memory) → stream.counts ≡ no_counts → IsCounted 0 (state_of stream)
none_counted stream e = rw e (omega arith, omega arith, omega arith)

pub can_fail : (n : ℕ) (state : StreamState) → n < 100 → IsCounted n state → CanFail state
can_fail n state few (reads, writes, ends) = (omega (arith, few, reads), omega (arith, few, writes), omega (arith, few, ends))

carried : (n : ℕ) (before after : StreamState) (read written : List ℕ) (counts : Counts)
    → Carries before after read written counts → counts.failed_reads ≤ 1 → counts.failed_writes ≤ 1 → counts.ends ≤ 1
    → IsCounted n before → IsCounted (n + 1) after
carried n before after read written counts is one_read one_write one_end (reads, writes, ends) =
    let r = is.failed_reads in
    let w = is.failed_writes in
    let e = is.ends in
    (omega (arith, r, one_read, reads), omega (arith, w, one_write, writes), omega (arith, e, one_end, ends))

at_most_one : (b : Bool) → (if b then 1 else 0) ≤ 1
at_most_one true = omega arith
at_most_one false = omega arith

pub read_counted : {E : Type 0} (n : ℕ) (before after : StreamState) (buffer : List ℕ) (result : Result ℕ E)
    → Reads before after buffer result → IsCounted n before → IsCounted (n + 1) after
read_counted n before after buffer (Ok k) (fits, is, at) counted =
    carried n before after (take k buffer) [] (counts_of_read (length buffer) k) is (omega arith) (omega arith)
    (at_most_one (nat_lt 0 (length buffer) && (k == 0))) counted
read_counted n before after buffer (Err e) (is, at) counted = carried n before after [] [] a_failed_read is (omega arith) (omega arith) (omega arith) counted

pub write_counted : {E : Type 0} (n : ℕ) (before after : StreamState) (bytes : List ℕ) (result : Result ℕ E)
    → Writes before after bytes result → IsCounted n before → IsCounted (n + 1) after
write_counted n before after bytes (Ok k) (fits, some, is, at) counted =
    carried n before after [] (take k bytes) no_counts is (omega arith) (omega arith) (omega arith) counted
write_counted n before after bytes (Err e) (is, at) counted = carried n before after [] [] a_failed_write is (omega arith) (omega arith) (omega arith) counted
