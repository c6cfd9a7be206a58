use Rattle.std.proofs.Common.{slice_get, ap, sym, ◌∙◌}
use Rattle.mc_protocol.specs.declared.actor.Actor.TheVariants as actor
use Rattle.mc_code.specs.Code.{instructions_in}
use Rattle.mc_code.specs.declared.instr.Instr.TheVariants as instr
use Rattle.mc_code.proofs.LookUps.{some_is}
use Rattle.mc_counterexample.proofs.Settling.{ends_at}
use Rattle.mc_counterexample.proofs.places.ends.Goals as goal

pub returns-in_default : goal.returns-in_default
returns-in_default c = (
  λ e. absurd (cc),
  λ ends.
      let at = ap (slice_get (instructions_in c.args.code.now actor.P)) (sym c.from.ensures) ∙ c.instruction.ensures.instruction in
      let halt = ends_at c.args.code.now c.args.place c.settle-rest.result c.settle-rest.ensures.slides c.settle-rest.ensures.rests ends in
      absurd (c.in_default.not-Halt (some_is c.instruction.result instr.Halt (sym at ∙ halt))),
)
