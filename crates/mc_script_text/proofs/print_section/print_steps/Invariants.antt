use Rattle.std.proofs.Common.{◌≡◌, ◌++◌, drop}
use Rattle.mc_script_text.specs.PrintedScript.{lines_text, step_lines}
use Rattle.mc_script_text.proofs.print_section.print_steps.Given as goal

abbrev pub invariant-steps : goal.invariant-steps
invariant-steps l =
    l.out.items ++ lines_text (step_lines l.names l.labels l.place (drop l.place l.steps))
    ≡ l.fn.out.items ++ lines_text (step_lines l.fn.names l.fn.labels 0 l.fn.steps)
