use Rattle.std.proofs.Common.{◌∙◌}
use Rattle.mc_server.proofs.Maps.{got}
use Rattle.mc_server.proofs.items.Items.find.Goals as goal

pub returns : goal.returns
returns c = rw (← c.self.view_is) (c.get.ensures.value ∙ got c.args.key.now c.self.inside.map.entries)
