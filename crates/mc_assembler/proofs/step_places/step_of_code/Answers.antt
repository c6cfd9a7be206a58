use Rattle.std.proofs.Common.{◌∙◌, arith}
use Rattle.mc_assembler.proofs.StepPlaces.{place_ends}
use Rattle.mc_assembler.proofs.step_places.step_of_code.Goals as goal

pub returns-then-place-end : goal.returns-then-place-end
returns-then-place-end c =
    let ends = place_ends c.args.steps.now c.steps.index c.index-steps-index.result c.steps-test.true c.index-steps-index.is in
    let size = c.from-end.ensures ∙ c.size_of.ensures.size in
    let begun = c.steps.invariant.end in
    let before = c.steps.invariant.before in
    (c.steps-test.true, omega (arith, begun, before), omega (arith, ends, size, begun))

pub steps-preserved : goal.steps-preserved
steps-preserved c =
    let ends = place_ends c.args.steps.now c.steps.index c.index-steps-index.result c.steps-test.true c.index-steps-index.is in
    let size = c.from-end.ensures ∙ c.size_of.ensures.size in
    let begun = c.steps.invariant.end in
    let few = c.steps.invariant.few in
    let small = c.size_of.ensures.few in
    record {
      end = omega (arith, ends, size, begun);
      few = omega (arith, few, small, c.from-end.ensures);
      before = omega (arith, c.if-place-end.false);
    }
