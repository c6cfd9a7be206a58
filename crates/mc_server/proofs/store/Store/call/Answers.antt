use Rattle.std.proofs.Common.{false}
use Rattle.mc_server.proofs.store.Store.call.Goals as goal

pub apply-requires-clause-counts : goal.apply-requires-clause-counts
apply-requires-clause-counts c =
    rw (← c.self.view_is, ← c.find-found.ensures) (c.makes_version-counts.ensures c.args.request.now false c.self.inside.next)
