use Rattle.std.proofs.Common.{sym}
use Rattle.mc_model.proofs.Faults.{no_keys, nothing_sent}
use Rattle.mc_model.proofs.builder.HistoryBuilder.new.Goals as goal

pub invariant_of-result : goal.invariant_of-result
invariant_of-result c = (
  rw (c.new.ensures.items, c.new-2.ensures.items, c.new-3.ensures.items) nothing_sent,
  rw (c.new.ensures.items, c.new-2.ensures.items, c.new-3.ensures.items) (sym no_keys),
)
