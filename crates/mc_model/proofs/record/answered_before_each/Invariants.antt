use Rattle.std.proofs.Common.{◌≡◌, ◌≤◌, length, take}
use Rattle.mc_model.specs.Notes.{replies_in, answered_before_each}
use Rattle.mc_model.proofs.record.answered_before_each.Given as goal

abbrev pub invariant-counting : goal.invariant-counting
invariant-counting l = record {
  counts : l.counts.items ≡ answered_before_each l.section l.other (take l.actor-index l.notes);
  answered : l.answered ≡ length (replies_in l.other (take l.actor-index l.notes));
  within : l.answered ≤ l.actor-index;
}
