use Rattle.std.proofs.Common.{length, ap, ◌∙◌}
use Rattle.mc_protocol.specs.declared.actor.Actor.TheVariants as actor
use Rattle.mc_assembler.proofs.Kept.{parts-kept, parts-agree}
use Rattle.mc_assembler.proofs.assembler.assemble.Goals as goal

pub section-requires-2-clause-instructions : goal.section-requires-2-clause-instructions
section-requires-2-clause-instructions c = c.in_ok-check_limits.ensures.instructions actor.A

pub section-requires-3-clause-instructions : goal.section-requires-3-clause-instructions
section-requires-3-clause-instructions c = c.in_ok-check_limits.ensures.instructions actor.B

pub new-requires : goal.new-requires
new-requires c =
    parts-kept c.args.script.now _ _ _ _ _ _ _ (c.in_ok-keys.ensures ∙ c.keys.ensures.keys) (ap length c.flags.ensures) (ap length c.vars.ensures)
    c.in_ok-templates.ensures c.in_ok-p.ensures c.in_ok-a.ensures c.in_ok-b.ensures c.keys.ensures.kept
    c.in_ok-check_limits.ensures.templates c.in_ok-check_limits.ensures.instructions

pub returns-clause-kept : goal.returns-clause-kept
returns-clause-kept c =
    rw c.new.ensures (
    parts-kept c.args.script.now _ _ _ _ _ _ _ (c.in_ok-keys.ensures ∙ c.keys.ensures.keys) (ap length c.flags.ensures) (ap length c.vars.ensures)
    c.in_ok-templates.ensures c.in_ok-p.ensures c.in_ok-a.ensures c.in_ok-b.ensures c.keys.ensures.kept
    c.in_ok-check_limits.ensures.templates c.in_ok-check_limits.ensures.instructions
    )

pub returns-clause-agrees : goal.returns-clause-agrees
returns-clause-agrees c =
    rw c.new.ensures (
    parts-agree c.args.script.now _ _ _ _ _ _ _ (c.in_ok-keys.ensures ∙ c.keys.ensures.keys) (ap length c.flags.ensures) (ap length c.vars.ensures)
    c.in_ok-templates.ensures c.in_ok-p.ensures c.in_ok-a.ensures c.in_ok-b.ensures c.keys.ensures.kept
    )
