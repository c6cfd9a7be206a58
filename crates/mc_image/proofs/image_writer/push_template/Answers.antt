use Rattle.mc_image.proofs.WrittenImage.{template-written}
use Rattle.mc_image.proofs.image_writer.push_template.Goals as goal

pub returns : goal.returns
returns c =
    let front = rw (c.verb_index.ensures, c.to_be_bytes.ensures, c.to_be_bytes-2.ensures, c.as_slice-body.ensures) at c.in_ok-append_all.ensures.ok in
    let written = template-written c.args.version c.args.template.now c.argument_fields-sort.result.0 c.argument_fields-sort.result.1 _ _ _ _ _
    c.argument_fields-sort.ensures front c.in_ok-push_mask.ensures c.in_ok-push_mask-2.ensures c.in_ok-push_mask-3.ensures in
    rw (← written) c.push_mask-4.ensures
