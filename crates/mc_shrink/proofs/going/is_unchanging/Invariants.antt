use Rattle.std.proofs.Common.{◌≡◌, drop}
use Rattle.mc_shrink.specs.Going.{reply_to}
use Rattle.mc_shrink.proofs.going.is_unchanging.Given as goal

-- none of the notes so far replies to the client
abbrev pub invariant-notes : goal.invariant-notes
invariant-notes l = reply_to l.client (drop l.who-index l.notes) ≡ reply_to l.client l.notes
