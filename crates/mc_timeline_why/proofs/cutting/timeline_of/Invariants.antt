use Rattle.std.proofs.Common.{◌≡◌, take}
use Rattle.mc_timeline_why.proofs.cutting.timeline_of.Given as goal

abbrev pub invariant-notes : goal.invariant-notes
invariant-notes l = l.builder ≡ take l.client-index l.notes
