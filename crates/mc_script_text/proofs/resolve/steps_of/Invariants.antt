use Rattle.std.proofs.Common.{◌≡◌, length, drop}
use Rattle.mc_script_text.specs.{Reading.onto, Steps.steps_from}
use Rattle.mc_script_text.proofs.resolve.steps_of.Given as goal

abbrev pub invariant-entries : goal.invariant-entries
invariant-entries l = onto l.steps.items (steps_from l.labels (length l.steps.items) (drop l.numbered-index l.entries)) ≡ steps_from l.labels 0 l.fn.entries
