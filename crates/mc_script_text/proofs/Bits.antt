-- The test of one bit.
use Rattle.std.proofs.Common.{◌≡◌, ℕ, zero, suc, ◌<◌, ◌==◌, ◌*◌, ◌%◌, ◌^◌, true, not, nat_eq, bit_and, ap, ◌∙◌, arith}
use Rattle.std.proofs.lemmas.Nat.Bits.{and_pow, bit_at-lt}
use Rattle.std.proofs.{lemmas.Bool.ne_eqb, lemmas.Bool.not_from_false, lemmas.Nat.pow_below, lemmas.Nat.pow_pos, Math.Nat.mod-eq_of_lt}
use Rattle.std.specs.Int.{bit_at}

above : (power : ℕ) → 0 < power → not (nat_eq power 0) ≡ true
above power h = not_from_false (nat_eq power 0) (ne_eqb power 0 (λ e. absurd (omega (arith, e, h))))

test-of : (bit power : ℕ) → bit < 2 → 0 < power → not (nat_eq (bit * power) 0) ≡ (bit == 1)
test-of zero power h p =
    let none : zero * power ≡ 0 = omega arith in
    ap (λ n. not (nat_eq n 0)) none
test-of (suc zero) power h p =
    let once : suc zero * power ≡ power = omega arith in
    ap (λ n. not (nat_eq n 0)) once ∙ above power p
test-of (suc (suc bit)) power h p = absurd (omega (arith, h))

-- `mask & (1 << flag) != 0` at this width
pub bit-test : (width mask flag : ℕ) → flag < width → not (nat_eq (bit_and mask (1 * 2 ^ flag % 2 ^ width)) 0) ≡ (bit_at mask flag == 1)
bit-test width mask flag lt =
    let one : 1 * 2 ^ flag ≡ 2 ^ flag = omega arith in
    let shifted : 1 * 2 ^ flag % 2 ^ width ≡ 2 ^ flag = ap (λ n. n % 2 ^ width) one ∙ mod-eq_of_lt (pow_below flag width lt) in
    ap (λ n. not (nat_eq (bit_and mask n) 0)) shifted ∙ ap (λ n. not (nat_eq n 0)) (and_pow mask flag)
    ∙ test-of (bit_at mask flag) (2 ^ flag) (bit_at-lt mask flag) (pow_pos flag)
