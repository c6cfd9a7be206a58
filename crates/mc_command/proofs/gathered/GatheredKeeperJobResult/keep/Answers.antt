use Rattle.std.proofs.lemmas.Result.{on_ok_weaker}
use Rattle.mc_command.proofs.TallyMore.{becomes_more}
use Rattle.mc_command.proofs.gathered.GatheredKeeperJobResult.keep.Goals as goal

pub returns : goal.returns
returns g c =
    on_ok_weaker c.add.result (λ more. λ first before is.
    becomes_more first c.args.self.now c.add.new.self before c.args.came_to is c.add.ensures.brief c.add.ensures.show c.add.ensures.how more)
    c.add.ensures.gathers
