use Rattle.std.proofs.Common.{◌≡◌, ◌+◌, ◌<◌, ◌-◌, ◌^◌, ◌∙◌, ◌∷◌, [], ◌++◌, Option, ℕ, length, ap, inl, inr, refl, sym, arith}
use Rattle.std.proofs.{lemmas.Bool.false≢true, lemmas.List.length-append}
use Rattle.std.specs.Arc.{arc_value}
use Rattle.core.specs.Option.{unwrap_or}
use Rattle.mc_command.specs.{RepeatAnswers.AreSettled, RepeatAnswers.succeeds, declared.totals.Totals.Totals}
use Rattle.mc_command.proofs.{KeyNames.none_settled, KeyNames.none_under, KeyNames.own_right, KeyNames.right_under, MoreRuns.settled_before, RunTexts.comes_on}
use Rattle.mc_command.proofs.repeating.go_on.Goals as goal

pub runs-init : goal.runs-init
runs-init g c =
    let first = c.requires.first in
    record {
      so_far = (first.all, first.so_far, λ _. c.new-renaming.ensures, first.few);
      count = refl;
      number = refl;
      played = refl;
      failed = c.requires.failed;
      under = none_under (arc_value c.args.checked.now).code _ c.new-renaming.ensures;
    }

pub runs-preserved : goal.runs-preserved
runs-preserved g c =
    let all = c.runs.invariant.so_far.0 in
    let so = c.runs.invariant.so_far.1 in
    let own = c.runs.invariant.so_far.2 in
    let failed = c.runs.invariant.failed in
    let why = c.args.target.now.how.why in
    let written = (arc_value c.args.checked.now).code in
    let run = c.in_ok-played.played in
    let ready = c.if-not-ready.false in
    let same = c.in_ok-ready.ensures.same ready in
    let under = c.in_ok-ready.ensures.under ready in
    let settled_none = λ (settled : AreSettled all). none_settled _ _ _ same (own settled) (so.settled settled) in
    let right = right_under why written _ _ run c.code-code.ensures under c.in_ok-played.ensures in
    let count = sym (ap (λ (t : Totals). t.runs) so.totals) ∙ c.runs.invariant.count in
    let below = c.runs-test.true in
    let range = c.runs.auto.done-end in
    let short : length all < 2 ^ 64 - 1 = omega (arith, count, below, range) in
    let next = c.with-runs.ensures.so_far why written all so short right
    (λ settled. own_right why written _ _ run (settled_none settled) c.code-code.ensures c.in_ok-played.ensures)
    (λ succeeded. absurd (false≢true (sym failed ∙ succeeded))) in
    let kept = c.with-runs.ensures.same failed in
    record {
      so_far = (
        all ++ run ∷ [],
        next,
        λ settled. settled_none (settled_before all run settled),
        λ most is some.
            let limit : c.unwrap_or-most.result ≡ most =
            c.unwrap_or-most.ensures ∙ ap (λ (o : Option ℕ). unwrap_or o (2 ^ 64 - 1)) is in
            let long = length-append all (run ∷ []) in
            omega (arith, count, limit, below, long),
      );
      count = ap (λ (t : Totals). t.runs) next.totals ∙ (length-append all (run ∷ []) ∙ ap (λ n. n + 1) count);
      number = kept.0 ∙ c.runs.invariant.number;
      played = kept.1 ∙ c.runs.invariant.played;
      failed = ap succeeds kept.1 ∙ failed;
      under = under;
    }

pub returns-then-is_late : goal.returns-then-is_late
returns-then-is_late g c =
    comes_on c.args.repeat c.args.target.now.how.why (arc_value c.args.checked.now).code c.runs.runs c.args.first
    c.runs.invariant.so_far.0 c.runs.invariant.so_far.1 c.runs.invariant.number c.runs.invariant.played c.requires.keeps_going
    c.runs.invariant.so_far.3 (λ none most is some. absurd (false≢true (sym (c.is_late.ensures none) ∙ c.if-is_late.true)))

pub returns-then-not-ready : goal.returns-then-not-ready
returns-then-not-ready g c =
    let so = c.runs.invariant.so_far.1 in
    let unsettled = c.in_ok-ready.ensures.ends c.if-not-ready.true in
    comes_on c.args.repeat c.args.target.now.how.why (arc_value c.args.checked.now).code c.runs.runs c.args.first
    c.runs.invariant.so_far.0 so c.runs.invariant.number c.runs.invariant.played c.requires.keeps_going
    c.runs.invariant.so_far.3 (λ none most is some. inr (λ settled. false≢true (sym (so.settled settled) ∙ unsettled)))

pub returns : goal.returns
returns g c =
    let all = c.runs.invariant.so_far.0 in
    let so = c.runs.invariant.so_far.1 in
    comes_on c.args.repeat c.args.target.now.how.why (arc_value c.args.checked.now).code c.runs.runs c.args.first
    all so c.runs.invariant.number c.runs.invariant.played c.requires.keeps_going c.runs.invariant.so_far.3
    (λ none most is some.
    let limit : c.unwrap_or-most.result ≡ most =
    c.unwrap_or-most.ensures ∙ ap (λ (o : Option ℕ). unwrap_or o (2 ^ 64 - 1)) is in
    let count = sym (ap (λ (t : Totals). t.runs) so.totals) ∙ c.runs.invariant.count in
    let most_runs = c.runs.invariant.so_far.3 most is some in
    let over = c.runs-test.false in
    inl (omega (arith, count, limit, most_runs, over)))
