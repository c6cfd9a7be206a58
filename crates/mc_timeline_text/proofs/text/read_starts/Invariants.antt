use Rattle.std.proofs.Common.{◌↔◌, length}
use Rattle.mc_history.specs.{Parts.starts, Series.Series}
use Rattle.mc_linearize.specs.Claims.{TimelineClaim}
use Rattle.mc_timeline_text.specs.TimelineParts.{AfterStarts, SpellsStarts}
use Rattle.mc_timeline_text.proofs.text.read_starts.Given as goal

abbrev pub invariant-starts : goal.invariant-starts
invariant-starts l = (claim : TimelineClaim) → Series starts (AfterStarts claim) l.starts l.lines.words ↔ SpellsStarts l.initial.lines.words claim

abbrev pub decreases-starts : goal.decreases-starts
decreases-starts l = length l.lines.words
