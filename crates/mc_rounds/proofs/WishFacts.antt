-- What is drawn keeps its bounds, and a field that the verb lacks is 0 or empty.
use Rattle.std.proofs.Common.{ℕ, ◌<◌, ◌≤◌, ◌==◌, Bool, true, false, List, length, take, decimal}
use Rattle.std.proofs.Common.{arith, if◌then◌else◌}
use Rattle.std.proofs.{lemmas.Fmt.length-decimal-le, lemmas.List.length-take, lemmas.Nat.mod_below}
use Rattle.rand_pcg.specs.Lcg.{Lcg}
use Rattle.mc_rounds.specs.{Draws.draw, Draws.rest, Wishes.letters_in, Wishes.decimal_in, Wishes.body_in}

pub draw-below : (n : ℕ) (g : Lcg) → 0 < n → draw n g < n
unfolding draw
draw-below n g some = mod_below _ n some

decimal-short : (n : ℕ) (g : Lcg) → 0 < n → n ≤ 100000000 → length (decimal (draw n g)) ≤ 8
decimal-short n g some small =
    let below = draw-below n g some in length-decimal-le 8 (draw n g) (omega arith) (omega arith) (omega arith)

letters-short : (letters : List ℕ) (g : Lcg) → length (take (draw 9 g) letters) ≤ 8
letters-short letters g =
    let below = draw-below 9 g (omega arith) in rw (length-take (draw 9 g) letters) (omega arith)

pub body-short : (g : Lcg) → length (body_in g).0 ≤ 8
body-short g = by-kind (draw 4 g == 0) (draw 4 g == 1)
  where
    by-kind : (a b : Bool) → length (if a then letters_in (rest g) else (if b then decimal_in 100000000 (rest g) else decimal_in 100 (rest g))).0 ≤ 8
    by-kind true b = letters-short _ (rest (rest g))
    by-kind false true = decimal-short 100000000 (rest g) (omega arith) (omega arith)
    by-kind false false = decimal-short 100 (rest g) (omega arith) (omega arith)
