use Rattle.std.proofs.Common.{length, ap, arith}
use Rattle.mc_assembler.proofs.StepPlaces.{before, found_after}
use Rattle.mc_assembler.proofs.step_places.step_at.Goals as goal

pub returns-then-place-cleared : goal.returns-then-place-cleared
returns-then-place-cleared c =
    let keys = ap length c.cleared_keys-cleared.ensures in
    before c.args.script.now c.args.actor c.args.place (omega (arith, keys, c.if-place-cleared.true))

pub returns : goal.returns
returns c =
    let keys = ap length c.cleared_keys-cleared.ensures in
    let found = rw (c.steps.ensures.steps, c.cleared_keys-cleared.ensures) at c.step_of_code.ensures in
    found_after c.args.script.now c.args.actor c.args.place c.step_of_code.result (omega (arith, keys, c.if-place-cleared.false)) found
