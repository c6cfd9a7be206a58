use Rattle.std.proofs.lemmas.Result.{err_from_is_err_and}
use Rattle.mc_image.specs.ImageReading.{instr_in}
use Rattle.mc_image.proofs.Items.{goes_on, ends, is_done}
use Rattle.mc_image.proofs.read_section.read_instructions.Goals as goal

pub returns-in_err-instr : goal.returns-in_err-instr
returns-in_err-instr c =
    let p = err_from_is_err_and c.from_residual-in_err-instr.result c.from_residual-in_err-instr.ensures.1 in
    rw (p.1, p.2) (
      (λ _. ends (λ _. instr_in) c.in_ok-count.count c.loop.counter c.loop.instructions.items c.loop.fields _ c.loop-test.true
          c.in_err-instr.ensures.0 c.loop.invariant),
      (λ memory. absurd (c.in_err-instr.ensures.1 memory)),
    )

pub loop-preserved : goal.loop-preserved
loop-preserved c =
    rw c.in_ok-push.ensures.items (goes_on (λ _. instr_in) c.in_ok-count.count c.loop.counter c.loop.instructions.items c.loop.fields c.in_ok-instr.instr
    c.read_instr.new.fields _ c.loop-test.true c.in_ok-instr.ensures c.loop.invariant)

pub returns : goal.returns
returns c = is_done (λ _. instr_in) c.in_ok-count.count c.loop.counter c.loop.instructions.items c.loop.fields _ c.loop-test.false c.loop.invariant
