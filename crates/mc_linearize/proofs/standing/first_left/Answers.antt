use Rattle.std.proofs.Common.{sym, get_or, arith}
use Rattle.mc_linearize.proofs.Settling.{none_past}
use Rattle.mc_linearize.proofs.standing.first_left.Goals as goal

pub returns-in_default-clause-first : goal.returns-in_default-clause-first
returns-in_default-clause-first c =
    let queues = c.args.queues.now in
    sym (none_past queues c.args.client (get_or c.args.counts.now c.args.client 0) (omega (arith, c.requires, c.in_default.ensures.lookup)))
