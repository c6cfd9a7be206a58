-- What streams carry, one call after the other.
use Rattle.std.specs.Prelude.{◌≡◌, ℕ, ◌+◌, ◌-◌, ◌≤◌, Option, Some, None, List, [], ◌++◌, length, take, drop}
use Rattle.std.proofs.Common.{arith, append_assoc, append-nil, subst, sym, ap, ◌∙◌}
use Rattle.std.proofs.{Math.Seq.take-add, lemmas.Grind.common_steps}
use Rattle.mc_lane.specs.{Streams.StreamState, Streams.no_counts, Streams.Grows, Streams.Carries, declared.stream.Counts.Counts}

-- what is appended in two steps is appended in one
pub appended_twice : (a b c : List ℕ) (xs ys : List ℕ) → b ≡ a ++ xs → c ≡ b ++ ys → c ≡ a ++ (xs ++ ys)
appended_twice a b c xs ys h k = k ∙ ap (λ bs. bs ++ ys) h ∙ append_assoc a xs ys

-- bytes that grow twice grow by both
pub Grows-twice : (a b c : Option (List ℕ)) (xs ys : List ℕ) → Grows a b xs → Grows b c ys → Grows a c (xs ++ ys)
Grows-twice None None None xs ys h k = h
Grows-twice None None (Some c) xs ys h k = k
Grows-twice None (Some b) c xs ys h k = absurd h
Grows-twice (Some a) None c xs ys h k = absurd h
Grows-twice (Some a) (Some b) None xs ys h k = absurd k
Grows-twice (Some a) (Some b) (Some c) xs ys h k = appended_twice a b c xs ys h k

-- what is counted in two steps
abbrev pub sum_of : Counts → Counts → Counts
sum_of m n = record {
  failed_reads = m.failed_reads + n.failed_reads;
  failed_writes = m.failed_writes + n.failed_writes;
  ends = m.ends + n.ends;
}

-- what is carried in two steps is carried in one
pub Carries-twice : (a b c : StreamState) (read read' written written' : List ℕ) (m n : Counts)
    → Carries a b read written m → Carries b c read' written' n → Carries a c (read ++ read') (written ++ written') (sum_of m n)
Carries-twice a b c read read' written written' m n h k = record {
  reads = Grows-twice a.read b.read c.read read read' h.reads k.reads;
  writes = Grows-twice a.written b.written c.written written written' h.writes k.writes;
  failed_reads = omega (arith, h.failed_reads, k.failed_reads);
  failed_writes = omega (arith, h.failed_writes, k.failed_writes);
  ends = omega (arith, h.ends, k.ends);
}

-- a request that was written, and then what was read
pub Carries-both : (a b c : StreamState) (read written : List ℕ) (counts : Counts)
    → Carries a b [] written no_counts → Carries b c read [] counts → Carries a c read written counts
Carries-both a b c read written counts h k = record {
  reads = Grows-twice a.read b.read c.read [] read h.reads k.reads;
  writes = subst (λ bytes. Grows a.written c.written bytes) (append-nil written)
      (Grows-twice a.written b.written c.written written [] h.writes k.writes);
  failed_reads = omega (arith, h.failed_reads, k.failed_reads);
  failed_writes = omega (arith, h.failed_writes, k.failed_writes);
  ends = omega (arith, h.ends, k.ends);
}

-- the rest of a list, as the range from i on names it
pub range_from : (i : ℕ) (xs : List ℕ) → i ≤ length xs → take (length xs - i) (drop i xs) ≡ drop i xs
range_from i xs h = grind (arith, common_steps)

-- the first bytes, and the next ones
pub next_taken : (i n : ℕ) (xs : List ℕ) → i ≤ length xs → take (i + n) xs ≡ take i xs ++ take n (take (length xs - i) (drop i xs))
next_taken i n xs h = take-add i n xs ∙ ap (λ ys. take i xs ++ take n ys) (sym (range_from i xs h))

-- as many bytes as may be taken of the rest
pub count_in_range : (i n : ℕ) (xs : List ℕ) → i ≤ length xs → n ≤ length (take (length xs - i) (drop i xs)) → i + n ≤ length xs
count_in_range i n xs h k = grind (arith, common_steps)

-- and that many are taken
pub length_in_range : (i n : ℕ) (xs : List ℕ) → i ≤ length xs → n ≤ length (take (length xs - i) (drop i xs))
    → length (take n (take (length xs - i) (drop i xs))) ≡ n
length_in_range i n xs h k = grind (arith, common_steps)
