use Rattle.std.proofs.Common.{refl, ◌∙◌, arith}
use Rattle.mc_protocol.specs.declared.actor.Actor.TheVariants as actor
use Rattle.mc_code.specs.declared.instr.Instr.TheVariants as instr
use Rattle.mc_verify.proofs.PrefixPaths.{p_slides, p_sends}
use Rattle.mc_verify.proofs.replies.first_move.Goals as goal

pub overflow_add-result : goal.overflow_add-result
overflow_add-result c = let few = (c.instruction.ensures.kept.sections actor.P).few in omega (arith, few, c.requires.inside)

pub returns-in-Send-clause-some : goal.returns-in-Send-clause-some
returns-in-Send-clause-some c =
    p_sends c.args.code.now c.requires.structured (instr.Send c.in-Send.template c.in-Send.next) c.args.place c.from.result c.template.result.now
    c.first_class-class.result c.in-Send.ensures.instruction
    (c.template.ensures.template, c.first_class-class.ensures, c.from.ensures ∙ c.entry.ensures)

pub returns-in-Bind-clause-some : goal.returns-in-Bind-clause-some
returns-in-Bind-clause-some c =
    p_slides c.args.code.now c.requires.structured (instr.Bind c.in-Bind.field-0) c.args.place _ c.in-Bind.ensures.instruction refl

pub returns-in-Goto-clause-some : goal.returns-in-Goto-clause-some
returns-in-Goto-clause-some c =
    p_slides c.args.code.now c.requires.structured (instr.Goto c.in-Goto.target) c.args.place c.from-in-Goto.result c.in-Goto.ensures.instruction
    c.from-in-Goto.ensures
