use Rattle.std.proofs.Common.{◌≡◌, None}
use Rattle.mc_machine.specs.Machine.{Stands, actor_of, outstanding_of}
use Rattle.test_machine.proofs.play.follow.Given as goal

abbrev pub invariant-replies : goal.invariant-replies
invariant-replies l = record {
  stands : Stands l.checked.code l.machine;
  idle : outstanding_of l.machine ≡ None;
  actor : actor_of l.machine ≡ actor_of l.fn.machine;
}
