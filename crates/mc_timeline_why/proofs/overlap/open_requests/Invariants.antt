use Rattle.std.proofs.Common.{◌≡◌, ◌++◌, drop}
use Rattle.mc_timeline_why.specs.Fronts.{open_from}
use Rattle.mc_timeline_why.proofs.overlap.open_requests.Given as goal

abbrev pub invariant-notes : goal.invariant-notes
invariant-notes l = l.places.items ++ open_from l.key l.place (drop l.place l.notes) ≡ open_from l.key 0 l.notes
