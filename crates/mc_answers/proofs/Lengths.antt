-- How long an input is whose first bytes were read.
use Rattle.std.proofs.Common.{arith, ap, refl, sym, subst, append-nil, ◌≡◌, ◌∙◌, ℕ, ◌<◌, ◌≤◌, List, ◌++◌, length, length-append, take}
use Rattle.std.proofs.{Common.Option, Common.Some, Common.None, lemmas.List.take-append-le}
use Rattle.mc_answers.specs.{Answers.IsWhole, Input.Adds, Streams.IsAtEnd, Streams.Loses, Streams.TakesAtMost}
use Rattle.mc_answers.proofs.Taken.{loses_more}

-- ---- what was taken

-- what two calls took
pub loses_added : (old mid new : Option (List ℕ)) (text after : List ℕ) → Loses old mid text → Adds mid new text after → Loses old new after
loses_added old mid new text after lost added =
    subst (λ all. Loses old new all) (sym added.1) (loses_more old mid new text added.0 lost added.2)

pub takes_added : (old mid new : Option (List ℕ)) (text after : List ℕ) (most : ℕ) → Loses old mid text → Adds mid new text after
    → length after ≤ most → TakesAtMost most old new
takes_added old mid new text after most lost added few = (after, few, loses_added old mid new text after lost added)

-- ---- the whole input

-- what was taken up to the end
pub whole_at_end : (left new : Option (List ℕ)) (text : List ℕ) → Loses left new text → IsAtEnd new → IsWhole left text
whole_at_end None new text lost end = tt
whole_at_end (Some old) None text lost end = absurd lost
whole_at_end (Some old) (Some new) text lost end = lost ∙ (ap (λ rest. text ++ rest) end ∙ append-nil text)

-- an input that begins with a text longer than this begins with the same bytes
pub longer_by : (left new : Option (List ℕ)) (text : List ℕ) (n : ℕ) → Loses left new text → n < length text
    → (whole : List ℕ) × IsWhole left whole × (n < length whole) × (take n whole ≡ take n text)
longer_by None new text n lost long = (text, tt, long, refl)
longer_by (Some old) None text n lost long = absurd lost
longer_by (Some old) (Some new) text n lost long =
    let lengths : length old ≡ length (text ++ new) = ap length lost in
    let within : n ≤ length text = omega (arith, long) in
    (old, refl, omega (arith, long, lengths, length-append text new), ap (take n) lost ∙ take-append-le n text new within)
