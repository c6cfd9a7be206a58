use Rattle.std.proofs.Common.{◌≡◌, ◌≤◌, ◌++◌, drop}
use Rattle.mc_script_text.specs.Steps.{labels_from}
use Rattle.mc_script_text.proofs.resolve.labels_of.Given as goal

abbrev pub invariant-entries : goal.invariant-entries
invariant-entries l = record {
  labels : l.labels.items ++ labels_from l.place (drop l.numbered-index l.entries) ≡ labels_from 0 l.fn.entries;
  place : l.place ≤ l.numbered-index;
}
