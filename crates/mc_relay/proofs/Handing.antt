-- What is written after what was written before, and how far the handing on of bytes has come.
use Rattle.std.proofs.Common.{◌≡◌, ℕ, ◌+◌, ◌<◌, ◌≤◌, true, false, Option, Result, Ok, Err, List, [], ◌++◌, length, take, drop}
use Rattle.std.proofs.Common.{append_assoc, append-nil, sym, ap, subst, ◌∙◌, arith}
use Rattle.std.proofs.{lemmas.Grind.common_steps, lemmas.List.take-append-drop}
use Rattle.std.specs.Result.{is_err}
use Rattle.mc_lane.specs.Streams.{StreamState, no_counts, a_failed_write, counts_of_read, CanFail, Grows, Carries}
use Rattle.mc_lane.specs.{Sending.IsPrefix, declared.stream.Broken.Broken, declared.stream.Counts.Counts}
use Rattle.mc_lane.proofs.Carried.{Grows-twice}
use Rattle.mc_relay.specs.Passing.{HasPassed, Passes, WritesAll}
use Rattle.mc_relay.specs.declared.passing.Passed.TheVariants as passed

-- one more of each can still be counted
pub can_go_on : (a b : StreamState) (read written : List ℕ) → Carries a b read written no_counts → CanFail a → CanFail b
can_go_on a b read written h k =
    (omega (arith, h.failed_reads, k.0), omega (arith, h.failed_writes, k.1), omega (arith, h.ends, k.2))

-- what is written in two steps is written in one
pub Carries-written : (a b c : StreamState) (w v : List ℕ) (counts : Counts)
    → Carries a b [] w no_counts → Carries b c [] v counts → Carries a c [] (w ++ v) counts
Carries-written a b c w v counts h k = record {
  reads = Grows-twice a.read b.read c.read [] [] h.reads k.reads;
  writes = Grows-twice a.written b.written c.written w v h.writes k.writes;
  failed_reads = omega (arith, h.failed_reads, k.failed_reads);
  failed_writes = omega (arith, h.failed_writes, k.failed_writes);
  ends = omega (arith, h.ends, k.ends);
}

-- what is read in two steps is read in one
pub Carries-read : (a b c : StreamState) (r s : List ℕ) (counts : Counts)
    → Carries a b r [] no_counts → Carries b c s [] counts → Carries a c (r ++ s) [] counts
Carries-read a b c r s counts h k = record {
  reads = Grows-twice a.read b.read c.read r s h.reads k.reads;
  writes = Grows-twice a.written b.written c.written [] [] h.writes k.writes;
  failed_reads = omega (arith, h.failed_reads, k.failed_reads);
  failed_writes = omega (arith, h.failed_writes, k.failed_writes);
  ends = omega (arith, h.ends, k.ends);
}

-- the write failed that comes after the first of the bytes
pub breaks_at : (bytes : List ℕ) (n : ℕ) (a b c : StreamState) → Carries a b [] (take n bytes) no_counts → Carries b c [] [] a_failed_write
    → (put : List ℕ) × IsPrefix put bytes × Carries a c [] put a_failed_write
breaks_at bytes n a b c h k = (
  take n bytes ++ [],
  (drop n bytes, sym (ap (λ xs. xs ++ drop n bytes) (append-nil (take n bytes)) ∙ take-append-drop n bytes)),
  Carries-written a b c (take n bytes) [] a_failed_write h k,
)

-- what was written if not all of the bytes were
pub failed : (bytes : List ℕ) (a b : StreamState) (result : Result (Unit {0}) Broken) → is_err result ≡ true → WritesAll bytes a b result
    → (put : List ℕ) × IsPrefix put bytes × Carries a b [] put a_failed_write
failed bytes a b (Ok done) e h = absurd (cc)
failed bytes a b (Err broken) e h = h

-- all of the bytes were written
pub wrote : (bytes : List ℕ) (a b : StreamState) (result : Result (Unit {0}) Broken) → is_err result ≡ false → WritesAll bytes a b result
    → Carries a b [] bytes no_counts
wrote bytes a b (Ok done) e h = h
wrote bytes a b (Err broken) e h = absurd (cc)

-- ---- pieces

-- the bytes that a read put at the front of the room
pub front_of : (n len : ℕ) (buffer rest xs : List ℕ) → xs ≡ take len (buffer ++ rest) → n ≤ length buffer → n ≤ len
    → take n xs ≡ take n buffer
front_of n len buffer rest xs is h k = grind (arith, common_steps)

-- a read that brought some bytes counts nothing
counted_none : (room brought : ℕ) → 0 < brought → counts_of_read room brought ≡ no_counts
counted_none room brought h = grind (arith, common_steps)

pub piece_read : (b c : StreamState) (piece : List ℕ) (room brought : ℕ) → 0 < brought → Carries b c piece [] (counts_of_read room brought)
    → Carries b c piece [] no_counts
piece_read b c piece room brought some h = subst (λ counts. Carries b c piece [] counts) (counted_none room brought some) h

-- a piece was read, heard and handed on
pub passed_more : (from from' from'' to to' to'' : StreamState) (heard heard' heard'' : Option (List ℕ)) (piece : List ℕ)
    → HasPassed from from' to to' heard heard' → Carries from' from'' piece [] no_counts → Grows heard' heard'' piece
    → Carries to' to'' [] piece no_counts → HasPassed from from'' to to'' heard heard''
passed_more from from' from'' to to' to'' heard heard' heard'' piece h r e w = record {
  got = h.got ++ piece;
  reads = Carries-read from from' from'' h.got piece no_counts h.reads r;
  writes = Carries-written to to' to'' h.got piece no_counts h.writes w;
  hears = Grows-twice heard heard' heard'' h.got piece h.hears e;
}

-- a write failed after the first bytes of a piece
pub passes_front : (from from' from'' to to' to'' : StreamState) (heard heard' heard'' : Option (List ℕ)) (piece : List ℕ)
    → HasPassed from from' to to' heard heard' → Carries from' from'' piece [] no_counts → Grows heard' heard'' piece
    → ((put : List ℕ) × IsPrefix put piece × Carries to' to'' [] put a_failed_write) → Passes from from'' to to'' heard heard'' passed.WriteFailed
passes_front from from' from'' to to' to'' heard heard' heard'' piece h r e (put, (rest, is), w) =
    let read = Carries-read from from' from'' h.got piece no_counts h.reads r in
    let written = Carries-written to to' to'' h.got put a_failed_write h.writes w in
    record {
      got = h.got ++ piece;
      put = h.got ++ put;
      reads = read.reads;
      silent = read.writes;
      writes = written.writes;
      unread = written.reads;
      hears = Grows-twice heard heard' heard'' h.got piece h.hears e;
      handed = (rest, ap (λ xs. h.got ++ xs) is ∙ sym (append_assoc h.got put rest));
    }
