use Rattle.std.proofs.Common.{Some, slice_get, ap, sym, subst, ◌∙◌, arith}
use Rattle.mc_code.specs.{Code.instructions_in, Paths.Slides}
use Rattle.mc_code.proofs.LookUps.{some_is}
use Rattle.mc_sound.proofs.Structured.{structured_variable}
use Rattle.mc_counterexample.proofs.kind_replay.KindReplay.slide.Goals as goal

pub after_slide-requires : goal.after_slide-requires
after_slide-requires c v is =
    let declared = structured_variable c.args.code.now c.args.section c.requires.structured c.from.result v (c.instruction.ensures.instruction ∙ ap Some is) in
    let few = c.instruction.ensures.kept.vars in
    omega (arith, declared, few)

pub returns-in-Some-clause-some : goal.returns-in-Some-clause-some
returns-in-Some-clause-some c =
    let code = c.args.code.now in
    let section = c.args.section in
    let slid = c.in-Some.ensures.some in
    let at = ap (slice_get (instructions_in code section)) (sym c.from.ensures) ∙ c.instruction.ensures.instruction in
    let same = some_is slid.0 c.instruction.result (sym slid.1 ∙ at) in
    record {
      i = c.instruction.result;
      at = at;
      leads = subst (λ i. Slides i c.args.self.now.place c.in-Some.place) same slid.2;
      after_is = c.after_slide.ensures code (λ v is. structured_variable code section c.requires.structured c.from.result v
          (c.instruction.ensures.instruction ∙ ap Some is));
    }
