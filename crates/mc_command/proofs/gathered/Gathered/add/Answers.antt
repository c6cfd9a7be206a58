use Rattle.std.proofs.Common.{rules}
use Rattle.mc_command.proofs.TallyMore.{gathers_more}
use Rattle.mc_command.proofs.gathered.Gathered.add.Goals as goal

pub returns-clause-gathers : goal.returns-clause-gathers
returns-clause-gathers g c all last is fits part =
    gathers_more c.args.self.now.show c.args.self.now.how.why all last c.args.one.now c.args.self.now _ c.in_ok-shown.shown.items is
    (c.with-self.ensures all is.tally fits) (c.in_ok-add.ensures.more last is.report part) (search rules) c.in_ok-shown.ensures
