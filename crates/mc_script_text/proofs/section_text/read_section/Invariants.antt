use Rattle.std.proofs.Common.{◌≡◌, ◌≤◌, [], length}
use Rattle.mc_script_text.specs.Reading.{entries_in}
use Rattle.mc_script.specs.Versions.{steps_limit}
use Rattle.mc_script_text.proofs.section_text.read_section.Given as goal

abbrev pub invariant-lines : goal.invariant-lines
invariant-lines l = record {
  reads : entries_in (steps_limit l.version) l.names l.stop l.entries.items l.count l.labels l.lines.words
      ≡ entries_in (steps_limit l.version) l.names l.stop [] 0 [] l.initial.lines.words;
  few : l.count ≤ steps_limit l.version;
}

abbrev pub decreases-lines : goal.decreases-lines
decreases-lines l = length l.lines.words
