use Rattle.std.proofs.Common.{◌<◌, ◌-◌, length, []}
use Rattle.mc_code.specs.{Code.instructions_in, Runs.IsRun, States.State}
use Rattle.mc_counterexample.specs.KindReplays.{state_of}
use Rattle.mc_counterexample.proofs.kind_replay.KindReplay.come_to.Given as goal

abbrev pub invariant-slides : goal.invariant-slides
invariant-slides l = record {
  slid : IsRun l.fn.code.templates (instructions_in l.fn.code l.fn.section) l.fn.self.place (state_of l.fn.code l.fn.self.known) [] l.replay.place
      (state_of l.fn.code l.replay.known);
  inside : l.replay.place < length (instructions_in l.fn.code l.fn.section);
  onward : (end : State) → IsRun l.fn.code.templates (instructions_in l.fn.code l.fn.section) l.fn.self.place (state_of l.fn.code l.fn.self.known) []
      l.fn.place end
      → IsRun l.fn.code.templates (instructions_in l.fn.code l.fn.section) l.replay.place (state_of l.fn.code l.replay.known) [] l.fn.place end;
}

abbrev pub decreases-slides : goal.decreases-slides
decreases-slides l = length (instructions_in l.fn.code l.fn.section) - l.replay.place
