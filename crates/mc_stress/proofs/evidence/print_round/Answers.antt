use Rattle.std.proofs.Common.{◌≡◌, ◌++◌, [], None, ap, append-nil, refl, subst, sym, ◌∙◌}
use Rattle.std.proofs.lemmas.Result.{on_ok_weaker}
use Rattle.std.specs.Option.{option_copied}
use Rattle.mc_stress.specs.Evidence as spec
use Rattle.mc_stress.proofs.evidence.print_round.Goals as goal

pub returns-in_default : goal.returns-in_default
returns-in_default c =
    let notes = c.args.round.now.timeline in
    let failed = c.args.round.now.failed.items in
    let v = c.args.round.now.verdict in
    let out = c.args.out.now.items in
    let shown = spec.unless_done failed notes in
    let none : spec.named_key v ≡ None = sym c.named_key.ensures ∙ ap option_copied c.in_default.is in
    let first = c.in_ok-print_failed.ensures ∙ ap (λ l. out ++ spec.failed_text l) c.as_slice.ensures.value in
    let before = c.in_ok-print_verdict.ensures ∙ ap (λ l. l ++ spec.verdict_text v) first in
    let last = ap (λ l. c.print_verdict.new.out.items ++ spec.unless_done l notes) c.as_slice-in_default.ensures.value in
    on_ok_weaker c.print_unless_done.result
    (λ printed. record {
      why = [];
      shown = shown;
      is_shown = subst (λ key. spec.IsShown c.args.judging failed v key notes shown) (sym none) refl;
      text = printed ∙ last ∙ ap (λ l. l ++ shown) (before ∙ sym (append-nil (out ++ spec.failed_text failed ++ spec.verdict_text v)));
    }) c.print_unless_done.ensures
