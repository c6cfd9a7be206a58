use Rattle.std.proofs.Common.{refl, arith}
use Rattle.mc_flow.proofs.CallCosts.{key_read, text_sized}
use Rattle.mc_flow.proofs.weights.call_bytes.Goals as goal

pub text_len-requires : goal.text_len-requires
text_len-requires c =
    let t = c.template-template.result.now in
    let kept = c.template-template.ensures.kept in
    let at = c.template-template.ensures.template in
    let key = key_read c.args.code.now c.args.template t c.keys.result.now c.from.result c.index-keys-from.result c.as_slice.result.now kept at
    c.keys.ensures.keys c.from.ensures c.index-keys-from.is c.as_slice.ensures in
    (text_sized c.args.code.now c.args.template t c.as_slice.result.now _ kept at key refl).key_short

pub overflow_cast-result : goal.overflow_cast-result
overflow_cast-result c =
    let t = c.template-template.result.now in
    let kept = c.template-template.ensures.kept in
    let at = c.template-template.ensures.template in
    let key = key_read c.args.code.now c.args.template t c.keys.result.now c.from.result c.index-keys-from.result c.as_slice.result.now kept at
    c.keys.ensures.keys c.from.ensures c.index-keys-from.is c.as_slice.ensures in
    let small = (text_sized c.args.code.now c.args.template t c.as_slice.result.now c.text_len.result kept at key c.text_len.ensures).small in
    omega (arith, small)

pub returns : goal.returns
returns c =
    let t = c.template-template.result.now in
    let kept = c.template-template.ensures.kept in
    let at = c.template-template.ensures.template in
    let key = key_read c.args.code.now c.args.template t c.keys.result.now c.from.result c.index-keys-from.result c.as_slice.result.now kept at
    c.keys.ensures.keys c.from.ensures c.index-keys-from.is c.as_slice.ensures in
    let sized = text_sized c.args.code.now c.args.template t c.as_slice.result.now c.text_len.result kept at key c.text_len.ensures in
    record { weight = sized.weight; small = sized.small }
