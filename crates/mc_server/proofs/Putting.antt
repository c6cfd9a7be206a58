-- What is put, one text after another.
use Rattle.std.proofs.Common.{◌≡◌, ℕ, Option, Some, None, Result, Ok, Err, List, [], ◌++◌, take, drop}
use Rattle.std.proofs.Common.{append_assoc, append-nil, sym, ap, subst, ◌∙◌, arith}
use Rattle.std.proofs.lemmas.List.{take-append-drop}
use Rattle.mc_lane.specs.Streams.{StreamState, no_counts, a_failed_write, CanFail, Grows, Carries}
use Rattle.mc_lane.specs.declared.stream.Counts.{Counts}
use Rattle.mc_lane.proofs.Carried.{Grows-twice}
use Rattle.mc_server.specs.{Answering.Is, Puts.IsPut, Puts.IsBroken, Puts.Puts, declared.served.Why.Why}
use Rattle.mc_server.specs.declared.served.Why.TheVariants as why

-- one more of each can still be counted
pub can_go_on : (a b : StreamState) (read written : List ℕ) → Carries a b read written no_counts → CanFail a → CanFail b
can_go_on a b read written h k =
    (omega (arith, h.failed_reads, k.0), omega (arith, h.failed_writes, k.1), omega (arith, h.ends, k.2))

Grows-none : (bytes : Option (List ℕ)) → Grows bytes bytes []
Grows-none None = tt
Grows-none (Some bytes) = sym (append-nil bytes)

pub Carries-none : (a : StreamState) → Carries a a [] [] no_counts
Carries-none a = record {
  reads = Grows-none a.read;
  writes = Grows-none a.written;
  failed_reads = omega arith;
  failed_writes = omega arith;
  ends = omega arith;
}

-- what is written in two steps is written in one
pub Carries-written : (a b c : StreamState) (w v : List ℕ) (counts : Counts)
    → Carries a b [] w no_counts → Carries b c [] v counts → Carries a c [] (w ++ v) counts
Carries-written a b c w v counts h k = record {
  reads = Grows-twice a.read b.read c.read [] [] h.reads k.reads;
  writes = Grows-twice a.written b.written c.written w v h.writes k.writes;
  failed_reads = omega (arith, h.failed_reads, k.failed_reads);
  failed_writes = omega (arith, h.failed_writes, k.failed_writes);
  ends = omega (arith, h.ends, k.ends);
}

-- a text that is held back
pub IsPut-held : (text held new : List ℕ) (a : StreamState) → new ≡ held ++ text → IsPut text held new a a no_counts
IsPut-held text held new a is = record { written = []; carries = Carries-none a; all = sym is }

-- one text after another
pub IsPut-twice : (t u h i j : List ℕ) (a b c : StreamState) (counts : Counts)
    → IsPut t h i a b no_counts → IsPut u i j b c counts → IsPut (t ++ u) h j a c counts
IsPut-twice t u h i j a b c counts p q = record {
  written = p.written ++ q.written;
  carries = Carries-written a b c p.written q.written counts p.carries q.carries;
  all = sym (append_assoc h t u) ∙ ap (λ xs. xs ++ u) p.all ∙ append_assoc p.written i u ∙ ap (λ xs. p.written ++ xs) q.all
      ∙ sym (append_assoc p.written q.written j);
}

-- a text and nothing after it
pub IsPut-and_none : (t u h i j : List ℕ) (a b c : StreamState) (counts : Counts) → u ≡ []
    → IsPut t h i a b no_counts → IsPut u i j b c counts → IsPut t h j a c counts
IsPut-and_none t u h i j a b c counts none p q =
    subst (λ x. IsPut x h j a c counts) (ap (λ x. t ++ x) none ∙ append-nil t) (IsPut-twice t u h i j a b c counts p q)

-- nothing was put
pub IsPut-none : (held : List ℕ) (a : StreamState) → IsPut [] held held a a no_counts
IsPut-none held a = IsPut-held [] held held a (sym (append-nil held))

-- the write failed that comes after the first of the bytes
pub IsBroken-at : (bytes : List ℕ) (n : ℕ) (a b c : StreamState) → Carries a b [] (take n bytes) no_counts → Carries b c [] [] a_failed_write
    → IsBroken [] bytes a c
IsBroken-at bytes n a b c h k = (
  drop n bytes,
  record {
    written = take n bytes ++ [];
    carries = Carries-written a b c (take n bytes) [] a_failed_write h k;
    all = append-nil bytes ∙ sym (ap (λ xs. xs ++ drop n bytes) (append-nil (take n bytes)) ∙ take-append-drop n bytes);
  },
)

-- what was not finished comes after what was put before
pub puts_err : (text : List ℕ) (Whole Front Whole' Front' : List ℕ → Type 0) (held mid left : List ℕ) (a b c : StreamState) (w : Why)
    → IsPut text held mid a b no_counts → ((t : List ℕ) → Front t → Front' (text ++ t)) → Puts Whole Front mid left b c (Err w)
    → Puts Whole' Front' held left a c (Err w)
puts_err text Whole Front Whole' Front' held mid left a b c why.Memory p g h =
    (text ++ h.0, g h.0 h.1, IsPut-twice text h.0 held mid left a b c no_counts p h.2)
puts_err text Whole Front Whole' Front' held mid left a b c why.WriteFailed p g h =
    (text ++ h.0, g h.0 h.1, (h.2.0, IsPut-twice text h.0 held mid h.2.0 a b c a_failed_write p h.2.1))
puts_err text Whole Front Whole' Front' held mid left a b c why.Ended p g h = absurd h
puts_err text Whole Front Whole' Front' held mid left a b c why.Quit p g h = absurd h
puts_err text Whole Front Whole' Front' held mid left a b c why.ReadFailed p g h = absurd h
puts_err text Whole Front Whole' Front' held mid left a b c why.Refused p g h = absurd h
puts_err text Whole Front Whole' Front' held mid left a b c why.TooMuch p g h = absurd h

-- what is put comes after what was put before
pub puts_after : (text : List ℕ) (Whole Front Whole' Front' : List ℕ → Type 0) (held mid left : List ℕ) (a b c : StreamState)
    (result : Result (Unit {0}) Why) → IsPut text held mid a b no_counts → ((t : List ℕ) → Whole t → Whole' (text ++ t))
    → ((t : List ℕ) → Front t → Front' (text ++ t)) → Puts Whole Front mid left b c result → Puts Whole' Front' held left a c result
puts_after text Whole Front Whole' Front' held mid left a b c (Ok done) p f g h =
    (text ++ h.0, f h.0 h.1, IsPut-twice text h.0 held mid left a b c no_counts p h.2)
puts_after text Whole Front Whole' Front' held mid left a b c (Err w) p f g h = puts_err text Whole Front Whole' Front' held mid left a b c w p g h

-- room was made, and then the text was held back
pub put_with_room : (text held mid new : List ℕ) (a b : StreamState) → ((none : List ℕ) × Is [] none × IsPut none held mid a b no_counts)
    → new ≡ mid ++ text → IsPut text held new a b no_counts
put_with_room text held mid new a b room is =
    IsPut-twice [] text held mid new a b b no_counts (subst (λ t. IsPut t held mid a b no_counts) room.1 room.2) (IsPut-held text mid new b is)
