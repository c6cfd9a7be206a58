use Rattle.std.proofs.Common.{◌≡◌, [], take}
use Rattle.mc_core.specs.{Fields.AreBegun, Histories.recorded_from}
use Rattle.mc_core.proofs.world.World.record.Given as goal

abbrev pub invariant-recording : goal.invariant-recording
invariant-recording l = record {
  items : l.recorded.items ≡ recorded_from l.checked.code l.self.world [] (take l.actor-index l.notes);
  begun : AreBegun l.begun (take l.actor-index l.notes);
}
