use Rattle.std.specs.Arc.{arc_value}
use Rattle.mc_command.proofs.RunTexts.{comes_first}
use Rattle.mc_command.proofs.repeated.write_over.Goals as goal

pub returns-else-may_go_on : goal.returns-else-may_go_on
returns-else-may_go_on g c =
    c.write_last.ensures c.args.target.now.how.why (arc_value c.args.checked.now).code
    (comes_first _ _ _ _ c.in-Ok.ensures (c.may_go_on.ensures.over c.if-may_go_on.false))
