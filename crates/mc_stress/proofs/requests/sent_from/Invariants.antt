use Rattle.std.specs.Prelude.{◌≡◌, ◌++◌, drop}
use Rattle.mc_stress.specs.SentFrom.{sent_from}
use Rattle.mc_stress.proofs.requests.sent_from.Given as goal

abbrev pub invariant-notes : goal.invariant-notes
invariant-notes l = record {
  sent : l.sent.items ++ sent_from l.client (drop l.who-index l.notes) ≡ sent_from l.client l.notes;
  place : l.place ≡ l.who-index;
}
