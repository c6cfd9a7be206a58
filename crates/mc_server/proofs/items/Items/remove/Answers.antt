use Rattle.mc_server.proofs.Maps.{removed_entries}
use Rattle.mc_server.proofs.items.Items.remove.Goals as goal

pub returns : goal.returns
returns c =
    rw (← c.self.view_is) (removed_entries c.self.inside.map.entries c.remove.new.self.entries c.args.key.now (λ q. c.remove.ensures.updates.0 q))
