use Rattle.std.proofs.Common.{◌≡◌, ◌+◌, ◌<◌, ◌≤◌, ◌^◌}
use Rattle.mc_command.specs.Tallies.{Waits}
use Rattle.mc_command.proofs.reports.run_reports.Given as goal

-- what was gathered, and written of it, so far
abbrev pub invariant-reports : goal.invariant-reports
invariant-reports g l = record {
  unbroken : g.O.Sink.has_failed l.output ≡ g.O.Sink.has_failed l.initial.output;
  done : l.gathered.tally.jobs ≤ l.target.plan.jobs;
  first : l.target.plan.first + l.gathered.tally.jobs < 2 ^ 64;
  waits : Waits g.row.S.Denot l.target.plan l.until l.target.name l.gathered (g.O.Sink.written l.initial.output) (g.O.Sink.written l.output);
}
