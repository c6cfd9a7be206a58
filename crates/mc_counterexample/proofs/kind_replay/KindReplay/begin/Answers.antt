use Rattle.std.proofs.Common.{slice_get, ap, sym, ◌∙◌}
use Rattle.mc_protocol.specs.declared.actor.Actor.TheVariants as actor
use Rattle.mc_code.specs.Code.{instructions_in}
use Rattle.mc_code.specs.declared.instr.Instr.TheVariants as instr
use Rattle.mc_code.proofs.LookUps.{some_is}
use Rattle.mc_counterexample.specs.KindReplays.{state_of}
use Rattle.mc_counterexample.proofs.KindBegins.{ended_at}
use Rattle.mc_counterexample.proofs.kind_replay.KindReplay.begin.Goals as goal

pub returns-in_default : goal.returns-in_default
returns-in_default c =
    let code = c.args.code.now in
    let rest = c.settle-rest.result in
    let at = ap (slice_get (instructions_in code actor.P)) (sym c.from.ensures) ∙ c.instruction.ensures.instruction in
    record {
      begun = tt;
      place = tt;
      some = tt;
      none = λ after ended. c.in_default.not-Halt (some_is c.instruction.result instr.Halt (sym at ∙ ended_at code c.args.self.now.place rest.place
          (state_of code c.args.self.now.known) (state_of code rest.known) after c.settle-rest.ensures.slides c.settle-rest.ensures.rests ended));
    }
