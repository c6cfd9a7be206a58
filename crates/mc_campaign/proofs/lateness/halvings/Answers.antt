use Rattle.std.proofs.Common.{◌≡◌, ◌≤◌, ◌<◌, ◌*◌, ◌^◌, ℕ, subst, arith}
use Rattle.std.proofs.lemmas.Nat.{leading_top}
use native.Mathlib.Numerals.{unary_clauses}
use Rattle.mc_campaign.proofs.lateness.halvings.Goals as goal

pub returns-clause-halved : goal.returns-clause-halved
returns-clause-halved c =
    λ positive.
    let top = leading_top 16 c.args.microseconds positive (omega arith) in
    let same : top.0 ≡ c.saturating_sub.result = omega (arith, c.saturating_sub.ensures, top.1) in
    let P : ℕ → Type 0 = λ n. (2 ^ n ≤ c.args.microseconds) × (c.args.microseconds < 2 ^ n * 2) in
    subst P same (top.2, simp unary_clauses at top.3)
