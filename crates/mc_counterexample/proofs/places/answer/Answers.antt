use Rattle.std.proofs.Common.{slice_get, ap, sym, ◌∙◌}
use Rattle.mc_code.specs.Code.{instructions_in}
use Rattle.mc_code.specs.declared.instr.Instr.TheVariants as instr
use Rattle.mc_counterexample.proofs.Settling.{unanswered_at, illegal_at}
use Rattle.mc_sound.proofs.Structured.{structured_sends}
use Rattle.mc_counterexample.proofs.places.answer.Goals as goal

pub returns-then-legal-clause-inside : goal.returns-then-legal-clause-inside
returns-then-legal-clause-inside c =
    (structured_sends c.args.code.now c.args.section c.requires.structured (instr.Send c.in-Send.template c.in-Send.next) c.from.result c.entry.result
    c.template.result.now c.args.class c.in-Send.ensures.instruction
    (c.template.ensures.template, sym c.legal.ensures ∙ c.if-legal.true, c.entry.ensures)).1

pub returns-else-legal-clause-none : goal.returns-else-legal-clause-none
returns-else-legal-clause-none c =
    let at = ap (slice_get (instructions_in c.args.code.now c.args.section)) (sym c.from.ensures) ∙ c.in-Send.ensures.instruction in
    illegal_at c.args.code.now c.args.section c.args.place c.settle-rest.result c.in-Send.template c.in-Send.next c.template.result.now c.legal.result
    c.args.class c.settle-rest.ensures.slides c.settle-rest.ensures.rests at c.template.ensures.template c.legal.ensures c.if-legal.false

pub returns-in_default : goal.returns-in_default
returns-in_default c =
    let at = ap (slice_get (instructions_in c.args.code.now c.args.section)) (sym c.from.ensures) ∙ c.instruction.ensures.instruction in
    record {
      some = tt;
      inside = tt;
      none = λ t other x. unanswered_at c.args.code.now c.args.section c.args.place c.settle-rest.result c.instruction.result
          c.settle-rest.ensures.slides c.settle-rest.ensures.rests at c.in_default.not-Send t c.args.class other x;
    }
