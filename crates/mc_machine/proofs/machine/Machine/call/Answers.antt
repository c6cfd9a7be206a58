use Rattle.mc_machine.proofs.Standing.{declared_there}
use Rattle.mc_machine.proofs.machine.Machine.call.Goals as goal

pub number-number-requires : goal.number-number-requires
number-number-requires c =
    declared_there c.args.code.now c.args.template c.template.result.now c.template.ensures.kept c.template.ensures.template
