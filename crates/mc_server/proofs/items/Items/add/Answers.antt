use Rattle.mc_server.proofs.Maps.{put_entries}
use Rattle.mc_server.proofs.items.Items.add.Goals as goal

pub returns-in-Ok-clause-ok : goal.returns-in-Ok-clause-ok
returns-in-Ok-clause-ok c =
    rw (← c.self.view_is) (put_entries c.self.inside.map.entries c.insert.new.self.entries c.args.key c.args.item (λ q. c.in-Ok.ensures.updates.0 q))
