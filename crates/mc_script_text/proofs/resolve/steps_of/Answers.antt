use Rattle.std.proofs.Common.{◌≡◌, Some, length, sym, ap, ◌∙◌, rules}
use Rattle.mc_script_text.specs.{Steps.step_in, Reading.is_label}
use Rattle.mc_script_text.proofs.Resolving.{step-pushed, label-passed}
use Rattle.mc_script_text.proofs.resolve.steps_of.Goals.{then-not-is_label+in-Ok+in_ok-push-in-Ok, else-not-is_label}
use Rattle.mc_script_text.proofs.resolve.steps_of.Goals as goal

pub entries-preserved : goal.entries-preserved
entries-preserved c =
    let entries = c.args.entries.now in
    let labels = c.args.labels.now in
    let steps = c.entries.steps.items in
    let k = c.entries.numbered-index in
    let e = c.numbered-item.result in
    let seen : c.numbered.inside.entry ≡ e = c.numbered.view_is in
    let label : is_label e ≡ c.is_label.result = ap is_label (sym seen) ∙ sym c.is_label.ensures in
    elim c.if-not-is_label.branch [
      | then-not-is_label+in-Ok+in_ok-push-in-Ok w ↦
          let place : w.len.result ≡ length steps = search rules in
          let made : step_in labels (length steps) e ≡ Some w.in-Ok.step =
          ap (step_in labels (length steps)) (sym seen)
          ∙ ap (λ place. step_in labels place c.numbered.inside.entry) (sym place) ∙ w.in-Ok.ensures in
          let grown = ap (λ v. v.items) w.steps-is ∙ w.in_ok-push-in-Ok.ensures.items in
          step-pushed labels steps c.if-not-is_label.steps.items entries k e w.in-Ok.step _ c.entries-test.true c.numbered-item.is
          (label ∙ w.if-not-is_label.true) made grown c.entries.invariant
      | else-not-is_label w ↦
          rw w.steps-is (label-passed labels steps entries k e _ c.entries-test.true c.numbered-item.is (label ∙ w.if-not-is_label.false) c.entries.invariant)
    ]
