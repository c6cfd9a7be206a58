use Rattle.std.proofs.Common.{◌≡◌, ◌++◌, take}
use Rattle.std.specs.List.{flat_map}
use Rattle.mc_why.specs.WhyText.{form_text}
use Rattle.mc_why.proofs.form_text.print_forms.Given as goal

abbrev pub invariant-forms : goal.invariant-forms
invariant-forms l = l.out.items ≡ l.initial.out.items ++ flat_map form_text (take l.form-index l.forms)
