use Rattle.std.proofs.Common.{◌≡◌, ◌++◌, take}
use Rattle.std.specs.List.{All}
use Rattle.mc_timeline.specs.PrintedNotes.{MaySpellItself, notes_text}
use Rattle.mc_timeline.proofs.print.print_notes.Given as goal

abbrev pub invariant-noting : goal.invariant-noting
invariant-noting l =
    (l.out.items ≡ l.initial.out.items ++ notes_text (take l.client-index l.notes)) × All MaySpellItself (take l.client-index l.notes)
