-- Lines that are gathered.
use Rattle.std.proofs.Common.{◌≡◌, ℕ, ◌-◌, ◌<◌, ◌≤◌, ◌||◌, Bool, true, false, Err, List, [], ◌∷◌, ◌++◌, length}
use Rattle.std.proofs.Common.{take, drop, refl, ap, subst, ◌∙◌, arith, length-append, length-take}
use Rattle.std.proofs.lemmas.List.{take-append-drop}
use Rattle.mc_reader.specs.Gathered.{IsFirstEnd, IsLineEnd, GrowsTooLong, Gathers, joined, gathered}
use Rattle.mc_reader.specs.declared.fault.ReadFault.TheVariants.{LineTooLong}
use Rattle.mc_reader.specs.{Lines.has_end, Lines.IsLine, declared.fault.ReadFault.ReadFault, declared.limits.TheConstants.LINE_LIMIT}
use Rattle.mc_reader.proofs.LineEnds.{has_end-append}

pub neither_has : (a b : Bool) → a ≡ false → b ≡ false → (a || b) ≡ false
neither_has true b p q = absurd (cc)
neither_has false b p q = q

pub none_joined : (a b : List ℕ) → has_end a ≡ false → has_end b ≡ false → has_end (a ++ b) ≡ false
none_joined a b p q = has_end-append a b ∙ neither_has (has_end a) (has_end b) p q

pub grows_too_long : (start piece : List ℕ) → IsLine start → LINE_LIMIT - length start ≤ length piece
    → has_end (take (LINE_LIMIT - length start) piece) ≡ false → GrowsTooLong start piece
grows_too_long start piece l room none =
    let short = l.short in
    let front = take (LINE_LIMIT - length start) piece in
    let n = length-append start front in
    let m = length-take (LINE_LIMIT - length start) piece in
    record {
      front = front;
      back = drop (LINE_LIMIT - length start) piece;
      cut = take-append-drop (LINE_LIMIT - length start) piece;
      long = record { one = none_joined start front l.one none; full = omega arith };
    }

-- the line is what was gathered and what came before its LF
pub joined_is : (start front : List ℕ) → joined (gathered start front) front ≡ start ++ front
joined_is [] front = refl
joined_is (byte ∷ start) front = refl

-- the line that is read, by what was gathered of it
pub line_is : (start after front line : List ℕ) → after ≡ gathered start front → line ≡ joined after front → line ≡ start ++ front
line_is start after front line e d = d ∙ ap (λ u. joined u front) e ∙ joined_is start front

-- why no line is gathered
pub gathers_fault : (start piece : List ℕ) (room : ℕ) (fault : ReadFault) → IsLine start → room ≡ LINE_LIMIT - length start
    → IsLineEnd room piece (Err fault) → Gathers start start piece (Err fault)
gathers_fault start piece room LineTooLong l e p =
    let q : IsLineEnd (LINE_LIMIT - length start) piece (Err LineTooLong) = subst (λ n. IsLineEnd n piece (Err LineTooLong)) e p in
    grows_too_long start piece l q.0 q.1
gathers_fault start piece room fault l e p = absurd p
