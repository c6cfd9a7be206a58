use Rattle.std.proofs.Common.{◌≡◌, ◌+◌, ◌<◌, ◌-◌, ◌^◌, ◌∙◌, ◌∷◌, [], ◌++◌, Option, ℕ, length, ap, inl, inr, sym, arith}
use Rattle.std.proofs.lemmas.List.{length-append}
use Rattle.std.specs.Arc.{arc_value}
use Rattle.core.specs.Option.{unwrap_or}
use Rattle.mc_command.specs.{RepeatAnswers.succeeds, declared.totals.Totals.Totals}
use Rattle.mc_command.proofs.MoreRuns.{failed_by, succeeded_by}
use Rattle.mc_command.proofs.repeating.first_runs.Goals as goal

pub runs-init : goal.runs-init
runs-init g c =
    let so = c.new-runs.ensures.so_far c.args.target.now.how.why (arc_value c.args.checked.now).code c.in_ok-played.ensures in
    let count = ap (λ (t : Totals). t.runs) so.totals in
    record {
      so_far = (c.in_ok-played.played ∷ [], so);
      count = count;
      last = c.new-runs.ensures.last ∙ sym count;
    }

pub runs-preserved : goal.runs-preserved
runs-preserved g c =
    let all = c.runs.invariant.so_far.0 in
    let so = c.runs.invariant.so_far.1 in
    let why = c.args.target.now.how.why in
    let written = (arc_value c.args.checked.now).code in
    let run = c.in_ok-played-2.played in
    let right = c.in_ok-played-2.ensures in
    let count = sym (ap (λ (t : Totals). t.runs) so.totals) ∙ c.runs.invariant.count in
    let below = c.runs-test.true in
    let range = c.runs.auto.done-end in
    let short : length all < 2 ^ 64 - 1 = omega (arith, count, below, range) in
    let next = c.with-runs.ensures.so_far why written all so short (inl right) (λ _. right) (λ _. right) in
    record {
      so_far = (all ++ run ∷ [], next);
      count = ap (λ (t : Totals). t.runs) next.totals ∙ (length-append all (run ∷ []) ∙ ap (λ n. n + 1) count);
      last = c.with-runs.ensures.last
          (succeeded_by (succeeds c.runs.runs.played) _ c.has_failed.ensures c.if-has_failed.false);
    }

pub returns-then-has_failed : goal.returns-then-has_failed
returns-then-has_failed g c =
    let so = c.runs.invariant.so_far.1 in
    record {
      all = c.runs.invariant.so_far.0;
      so_far = so;
      last = c.runs.invariant.last;
      few = λ most is some.
          let count = sym (ap (λ (t : Totals). t.runs) so.totals) ∙ c.runs.invariant.count in
          let limit : c.unwrap_or-most.result ≡ most =
          c.unwrap_or-most.ensures ∙ ap (λ (o : Option ℕ). unwrap_or o (2 ^ 64 - 1)) is in
          let below = c.runs-test.true in
          omega (arith, count, limit, below);
      goes_on = λ none most is some. inr (failed_by (succeeds c.runs.runs.played) _ c.has_failed.ensures c.if-has_failed.true);
    }
