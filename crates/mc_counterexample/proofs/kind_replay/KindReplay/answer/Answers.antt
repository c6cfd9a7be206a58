use Rattle.std.proofs.Common.{◌≡◌, true, false, slice_get, ap, sym, ◌∙◌}
use Rattle.mc_protocol.specs.Legal.{is_legal}
use Rattle.mc_script.specs.declared.step.Template.{Template}
use Rattle.mc_code.specs.Code.{instructions_in}
use Rattle.mc_code.specs.declared.instr.Instr.TheVariants as instr
use Rattle.mc_code.proofs.LookUps.{some_is}
use Rattle.mc_counterexample.specs.KindReplays.{state_of}
use Rattle.mc_counterexample.proofs.{KindBegins.replied_at, Settling.no_other_send}
use Rattle.mc_sound.proofs.Structured.{structured_sends}
use Rattle.mc_counterexample.proofs.kind_replay.KindReplay.answer.Goals as goal

pub returns-then-legal-clause-inside : goal.returns-then-legal-clause-inside
returns-then-legal-clause-inside c =
    (structured_sends c.args.code.now c.args.section c.requires.structured (instr.Send c.in-Send.template c.in-Send.next) c.from.result c.entry.result
    c.template-template.result.now c.args.class c.in-Send.ensures.instruction
    (c.template-template.ensures.template, sym c.legal.ensures ∙ c.if-legal.true, c.entry.ensures)).1

pub returns-then-legal-clause-some : goal.returns-then-legal-clause-some
returns-then-legal-clause-some c =
    let code = c.args.code.now in
    let rest = c.settle-rest.result in
    let at = ap (slice_get (instructions_in code c.args.section)) (sym c.from.ensures) ∙ c.in-Send.ensures.instruction in (
      c.template-template.result.now,
      record {
        sent_at = rest.place;
        before = state_of code rest.known;
        i = instr.Send c.in-Send.template c.in-Send.next;
        slid = c.settle-rest.ensures.slides;
        at = at;
        leads = (c.template-template.ensures.template, sym c.legal.ensures ∙ c.if-legal.true, c.entry.ensures);
        after_is = c.after_reply.ensures code;
      },
    )

pub returns-else-legal-clause-none : goal.returns-else-legal-clause-none
returns-else-legal-clause-none c t other after replied =
    let code = c.args.code.now in
    let rest = c.settle-rest.result in
    let at = ap (slice_get (instructions_in code c.args.section)) (sym c.from.ensures) ∙ c.in-Send.ensures.instruction in
    let leads = replied_at code c.args.section c.args.self.now.place rest.place (state_of code c.args.self.now.known) (state_of code rest.known)
    (instr.Send c.in-Send.template c.in-Send.next) t c.args.class other after c.settle-rest.ensures.slides c.settle-rest.ensures.rests at replied in
    let same = some_is t c.template-template.result.now (sym leads.0 ∙ c.template-template.ensures.template) in
    let clash : true ≡ false = sym leads.1 ∙ ap (λ (t : Template). is_legal t.verb c.args.class) same ∙ sym c.legal.ensures ∙ c.if-legal.false in
    absurd (cc)

pub returns-in_default : goal.returns-in_default
returns-in_default c =
    let code = c.args.code.now in
    let rest = c.settle-rest.result in
    let at = ap (slice_get (instructions_in code c.args.section)) (sym c.from.ensures) ∙ c.instruction.ensures.instruction in
    record {
      inside = tt;
      begun = tt;
      some = tt;
      none = λ t other after replied. no_other_send code.templates c.instruction.result t c.args.class other c.in_default.not-Send
          (replied_at code c.args.section c.args.self.now.place rest.place (state_of code c.args.self.now.known) (state_of code rest.known)
          c.instruction.result t c.args.class other after c.settle-rest.ensures.slides c.settle-rest.ensures.rests at replied);
    }
