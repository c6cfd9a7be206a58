use Rattle.std.proofs.Common.{◌++◌, ap}
use Rattle.mc_protocol.specs.declared.actor.Actor.TheVariants as actor
use Rattle.mc_image.specs.Image.{image_in}
use Rattle.mc_image.proofs.{ImageRoom.written-fit, WrittenImage.image-written}
use Rattle.mc_image.proofs.image_writer.encode.Goals as goal

pub push_templates-requires-clause-fit : goal.push_templates-requires-clause-fit
push_templates-requires-clause-fit c = rw (c.version_of-version.ensures, c.templates.ensures.templates) (written-fit _ c.keys.ensures.kept)

pub push_instructions-requires : goal.push_instructions-requires
push_instructions-requires c = rw c.section.ensures (c.keys.ensures.kept.sections actor.P).few

pub push_instructions-requires-2 : goal.push_instructions-requires-2
push_instructions-requires-2 c = rw c.section-2.ensures (c.keys.ensures.kept.sections actor.A).few

pub push_instructions-requires-3 : goal.push_instructions-requires-3
push_instructions-requires-3 c = rw c.section-3.ensures (c.keys.ensures.kept.sections actor.B).few

pub returns-clause-ok : goal.returns-clause-ok
returns-clause-ok c =
    let written = image-written c.version_of-version.result c.args.code.now c.new-image.result.items c.extend_from_slice.new.self.items
    c.push_keys.new.out.items c.extend_from_slice-2.new.self.items c.push_budgets.new.out.items c.push_templates.new.out.items c.push_instructions.new.out.items
    c.push_instructions-2.new.out.items c.push_instructions-3.new.out.items c.new-image.ensures.items
    (rw c.magic.ensures at c.in_ok-extend_from_slice.ensures.items)
    (rw c.keys.ensures.keys at c.in_ok-push_keys.ensures)
    (rw (c.flags.ensures, c.vars.ensures) at c.in_ok-extend_from_slice-2.ensures.items) c.in_ok-push_budgets.ensures
    (rw c.templates.ensures.templates at c.in_ok-push_templates.ensures) (rw c.section.ensures at c.in_ok-push_instructions.ensures)
    (rw c.section-2.ensures at c.in_ok-push_instructions-2.ensures)
    (rw c.section-3.ensures at c.in_ok-push_instructions-3.ensures) in
    rw (c.in_ok-extend_from_slice-3.ensures.items, c.as_slice.ensures.value, written)
    (ap (λ v. c.args.out.now.items ++ image_in v c.args.code.now) c.version_of-version.ensures)
