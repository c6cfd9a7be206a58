use Rattle.std.proofs.Common.{◌≡◌, ◌++◌, drop}
use Rattle.mc_script_text.specs.PrintedScript.{lines_text, label_lines}
use Rattle.mc_script_text.proofs.print_section.print_labels.Given as goal

abbrev pub invariant-labels : goal.invariant-labels
invariant-labels l =
    l.out.items ++ lines_text (label_lines l.place (drop l.label-index l.labels)) ≡ l.fn.out.items ++ lines_text (label_lines l.fn.place l.fn.labels)
