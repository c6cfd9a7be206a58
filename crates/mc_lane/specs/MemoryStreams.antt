-- What contracts see of a stream in memory, and what its calls do.
use Rattle.std.specs.Prelude.{◌≡◌, ℕ, ◌+◌, ◌-◌, ◌==◌, Bool, true, false, ◌&&◌, ◌||◌, nat_lt, min, Option, Some}
use Rattle.std.specs.Prelude.{None, unwrap_or, Result, Ok, Err, List, [], ◌∷◌, ◌++◌, length, take, drop, find, if◌then◌else◌}
use Rattle.std.specs.List.{concat}
use Rattle.mc_lane.specs.{Streams.StreamState, Streams.no_counts, Streams.finds_end, Streams.ends_of_read, declared.stream.Counts.Counts}

-- What it gives, where the pieces end in which it gives this, and how many bytes it gave. What it took, how many bytes it may
-- take, and how many in one call. How many calls come before the one that is to fail, what was counted, and whether the last
-- read found the end.
pub record Memory : Type 0 where
  pub replies : List ℕ
  pub ends : List ℕ
  pub given : ℕ
  pub written : List ℕ
  pub room : ℕ
  pub longest_write : ℕ
  pub until_failure : Option ℕ
  pub counts : Counts
  pub at_end : Bool

-- as a stream it tells its bytes
abbrev pub state_of : Memory → StreamState
state_of m = record { read = Some (take m.given m.replies); written = Some m.written; counts = m.counts; at_end = m.at_end }

-- ---- a new one

-- where each piece ends, if the first begins here
abbrev pub ends_from : ℕ → List (List ℕ) → List ℕ
ends_from start [] = []
ends_from start (piece ∷ pieces) = (start + length piece) ∷ ends_from (start + length piece) pieces

-- the bytes of the pieces, and where each of them ends
abbrev pub IsJoined : List (List ℕ) → List ℕ → List ℕ → Type 0
IsJoined pieces bytes ends = (bytes ≡ concat pieces) × (ends ≡ ends_from 0 pieces)

-- it gives these pieces, and has this much room for what is written
abbrev pub fresh : List (List ℕ) → ℕ → Memory
fresh pieces room = record {
  replies = concat pieces;
  ends = ends_from 0 pieces;
  given = 0;
  written = [];
  room = room;
  longest_write = room;
  until_failure = None;
  counts = no_counts;
  at_end = false;
}

-- ---- calls that fail

-- the next call is the one that is to fail
abbrev pub is_due : Option ℕ → Bool
is_due None = false
is_due (Some calls) = calls == 0

-- how many calls come before the one that is to fail, after one more call
abbrev pub count_down : Option ℕ → Option ℕ
count_down None = None
count_down (Some calls) = if calls == 0 then None else Some (calls - 1)

abbrev pub after_failed_read : Memory → Memory
after_failed_read m = record m {
  until_failure = count_down m.until_failure;
  counts = record m.counts { failed_reads = m.counts.failed_reads + 1 };
  at_end = false;
}

abbrev pub after_failed_write : Memory → Memory
after_failed_write m =
    record m { until_failure = count_down m.until_failure; counts = record m.counts { failed_writes = m.counts.failed_writes + 1 } }

-- ---- reads

-- the first end after this place, or the length, and the length at most
abbrev pub end_after : ℕ → List ℕ → ℕ → ℕ
end_after given ends len = min (unwrap_or (find (λ end. nat_lt given end) ends) len) len

-- how many bytes a read gives that has this much room: those of one piece alone
abbrev pub count_read : Memory → ℕ → ℕ
count_read m room = min room (end_after m.given m.ends (length m.replies) - m.given)

-- it has this much room, and gives this many bytes
abbrev pub after_read : Memory → ℕ → ℕ → Memory
after_read m room count = record m {
  given = m.given + count;
  until_failure = count_down m.until_failure;
  counts = record m.counts { ends = m.counts.ends + ends_of_read room count };
  at_end = finds_end room count;
}

-- the next bytes of the piece stand at the front of the buffer, unless the call is the one that is to fail
abbrev pub ReadsMemory : {E : Type 0} → Memory → Memory → List ℕ → Result ℕ E → Type 0
ReadsMemory old new buffer (Ok count) =
    (is_due old.until_failure ≡ false) × (count ≡ count_read old (length buffer)) × (new ≡ after_read old (length buffer) count)
    × (take count buffer ≡ take count (drop old.given old.replies))
ReadsMemory old new buffer (Err e) = (is_due old.until_failure ≡ true) × (new ≡ after_failed_read old)

-- ---- writes

-- how many of `count` bytes a write takes
abbrev pub count_written : Memory → ℕ → ℕ
count_written m count = min (min count m.longest_write) (m.room - length m.written)

-- the call is the one that is to fail, or takes none of the bytes
abbrev pub is_write_broken : Memory → ℕ → Bool
is_write_broken m count = is_due m.until_failure || (nat_lt 0 count && (count_written m count == 0))

abbrev pub after_write : Memory → List ℕ → Memory
after_write m bytes = record m { written = m.written ++ bytes; until_failure = count_down m.until_failure }

-- the first bytes are taken, unless the call fails
abbrev pub WritesMemory : {E : Type 0} → Memory → Memory → List ℕ → Result ℕ E → Type 0
WritesMemory old new bytes (Ok count) =
    (is_write_broken old (length bytes) ≡ false) × (count ≡ count_written old (length bytes)) × (new ≡ after_write old (take count bytes))
WritesMemory old new bytes (Err e) = (is_write_broken old (length bytes) ≡ true) × (new ≡ after_failed_write old)
