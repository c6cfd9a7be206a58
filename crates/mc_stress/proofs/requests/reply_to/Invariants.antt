use Rattle.std.specs.Prelude.{◌≡◌, drop}
use Rattle.mc_stress.specs.SentFrom.{reply_to}
use Rattle.mc_stress.proofs.requests.reply_to.Given as goal

abbrev pub invariant-notes : goal.invariant-notes
invariant-notes l = reply_to l.client (drop l.who-index l.notes) ≡ reply_to l.client l.notes
