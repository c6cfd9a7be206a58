use Rattle.std.proofs.Common.{take, ◌++◌, ◌∷◌, [], ap, sym, ◌∙◌}
use Rattle.std.proofs.{lemmas.List.take_more, lemmas.Option.slice_get_within, lemmas.Option.get_or_from_slice_get}
use Rattle.mc_flow.specs.CostTables.{weights_of}
use Rattle.mc_sound.specs.declared.measure.Measure.TheVariants as measure
use Rattle.mc_flow.proofs.weights.template_bytes.Goals as goal

pub templates-preserved : goal.templates-preserved
templates-preserved c =
    let weights = weights_of c.args.code.now measure.Bytes in
    let place = c.templates.template in
    let inside = slice_get_within weights place c.call_bytes.result c.call_bytes.ensures.weight in
    let is = get_or_from_slice_get weights place c.call_bytes.result 0 c.call_bytes.ensures.weight in
    let pushed = c.in_ok-push.ensures.items in
    pushed ∙ ap (λ bytes. bytes ++ c.call_bytes.result ∷ []) c.templates.invariant
    ∙ sym (take_more weights place 0 inside ∙ ap (λ n. take place weights ++ n ∷ []) is)
