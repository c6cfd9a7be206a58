use Rattle.std.proofs.Common.{◌≡◌, ◌++◌, drop}
use Rattle.mc_assembler.specs.{Layout.requests_of, ScriptRuns.clearing_steps}
use Rattle.mc_assembler.proofs.templates.add_clearing.Given as goal

abbrev pub invariant-keys : goal.invariant-keys
invariant-keys l =
    l.out.items ++ requests_of (clearing_steps l.key (drop l.key l.keys)) ≡ l.fn.out.items ++ requests_of (clearing_steps 0 l.fn.keys)
