use Rattle.std.proofs.Common.{◌≡◌, true, slice_get, ap, sym, ◌∙◌, arith}
use Rattle.mc_code.specs.Code.{instructions_in}
use Rattle.mc_code.specs.declared.instr.Instr.TheVariants as instr
use Rattle.mc_code.proofs.LookUps.{some_is}
use Rattle.mc_counterexample.proofs.FlagReplays.{lacking_there, there_lacking}
use Rattle.mc_sound.proofs.Structured.{structured_template}
use Rattle.mc_counterexample.proofs.flag_replay.FlagReplay.lacks.Goals as goal

pub returns-then-not-rests_at : goal.returns-then-not-rests_at
returns-then-not-rests_at c = (
  λ e. absurd (cc),
  λ lacks.
      let there = lacking_there c.args.code.now c.args.value c.args.actor c.args.place c.args.self.now lacks in
      let rests = c.rests_at.ensures.rests.1 (there.rests, there.leads) in
      let isnt = c.if-not-rests_at.true in
      grind (arith, rests, isnt),
)

pub template-requires : goal.template-requires
template-requires c =
    structured_template c.args.code.now c.args.actor (c.requires.structured c.args.actor) c.from.result c.in-Send.template c.in-Send.next
    c.in-Send.ensures.instruction

pub returns-in-Send : goal.returns-in-Send
returns-in-Send c =
    let is = c.if-not-rests_at.false in
    let rests : c.rests_at.result ≡ true = grind (arith, is) in
    let at = ap (slice_get (instructions_in c.args.code.now c.args.actor)) (sym c.from.ensures) ∙ c.in-Send.ensures.instruction in
    there_lacking c.args.code.now c.args.value c.args.actor c.args.place c.in-Send.template c.in-Send.next c.template.result.now c.args.self.now
    c.may_lack.result (c.rests_at.ensures.rests.0 rests).1 at c.template.ensures.template c.may_lack.ensures

pub returns-in_default : goal.returns-in_default
returns-in_default c = (
  λ e. absurd (cc),
  λ lacks.
      let sends = (lacking_there c.args.code.now c.args.value c.args.actor c.args.place c.args.self.now lacks).sends in
      let at = ap (slice_get (instructions_in c.args.code.now c.args.actor)) (sym c.from.ensures) ∙ c.instruction.ensures.instruction in
      absurd (c.in_default.not-Send sends.0 sends.1 (some_is c.instruction.result (instr.Send sends.0 sends.1) (sym at ∙ sends.2))),
)
