use Rattle.std.proofs.Common.{◌≡◌, ◌-◌}
use Rattle.mc_code.specs.declared.limits.TheConstants.{INSTRUCTIONS_LIMIT}
use Rattle.mc_machine.specs.Moves.{Follows, Goes}
use Rattle.mc_machine.proofs.machine.Machine.settle.Given as goal

abbrev pub invariant-slides : goal.invariant-slides
invariant-slides l = record {
  goes : Goes l.code l.self;
  follows : Follows l.code l.fn.self l.self;
  actor : l.self.actor ≡ l.fn.self.actor;
  outstanding : l.self.outstanding ≡ l.fn.self.outstanding;
}

abbrev pub decreases-slides : goal.decreases-slides
decreases-slides l = INSTRUCTIONS_LIMIT - l.self.place
