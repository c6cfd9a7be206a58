use Rattle.mc_assembler.proofs.Rooms.{places-room, templates-room, section-made}
use Rattle.mc_assembler.proofs.assembler.section.Goals as goal

pub new-requires : goal.new-requires
new-requires c = places-room c.args.script.now c.args.actor _ _ c.cleared_keys-keys.ensures c.steps-steps.ensures.steps c.requires.instructions

pub add_steps-requires-clause-templates : goal.add_steps-requires-clause-templates
add_steps-requires-clause-templates c =
    templates-room c.args.script.now c.args.actor _ _ c.args.first c.cleared_keys-keys.ensures c.steps-steps.ensures.steps c.requires.first c.requires.templates

pub returns : goal.returns
returns c =
    section-made c.args.script.now c.args.actor c.steps-steps.ensures.kept _ _ _ c.args.first c.in_ok-places.places _ _ _ c.budget.result
    c.cleared_keys-keys.ensures c.steps-steps.ensures.steps c.labels.ensures c.requires.first c.in_ok-places.ensures
    c.new-instructions.ensures.items c.in_ok-add_clearing.ensures c.in_ok-add_steps.ensures c.budget.ensures
