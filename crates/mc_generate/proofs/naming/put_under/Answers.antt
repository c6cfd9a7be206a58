use Rattle.std.proofs.Common.{◌∙◌}
use Rattle.mc_generate.proofs.ImageUnder.{code-imaged}
use Rattle.mc_generate.proofs.naming.put_under.Goals as goal

pub image_under-requires : goal.image_under-requires
image_under-requires c = rw c.keys.ensures.keys at c.in_default.ensures.none

pub returns-in-Ok-clause-code : goal.returns-in-Ok-clause-code
returns-in-Ok-clause-code c =
    let short = rw c.keys.ensures.keys at c.in_default.ensures.none in
    let imaged = code-imaged c.args.name.now c.args.code.now c.deref.result.now c.keys.ensures.kept c.as_slice.ensures.kept short
    c.codes_have_images.ensures (c.deref.ensures.value ∙ c.in_ok-image.ensures) in
    c.in-Ok.ensures.read _ imaged.0 imaged.1

pub unreachable-requires : goal.unreachable-requires
unreachable-requires c =
    let short = rw c.keys.ensures.keys at c.in_default.ensures.none in
    let imaged = code-imaged c.args.name.now c.args.code.now c.deref.result.now c.keys.ensures.kept c.as_slice.ensures.kept short
    c.codes_have_images.ensures (c.deref.ensures.value ∙ c.in_ok-image.ensures) in
    c.in-Err.ensures.none c.in_default-kind.not-OutOfMemory _ imaged.0 imaged.1
