use Rattle.mc_server.proofs.Below.{below_empty}
use Rattle.mc_server.proofs.store.Store.starting.Goals as goal

pub invariant_of-result : goal.invariant_of-result
invariant_of-result c = rw c.new.ensures (below_empty c.args.next)
