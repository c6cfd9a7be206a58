use Rattle.std.proofs.Common.{◌≡◌, Some, slice_get, ap, sym, subst, ◌∙◌}
use Rattle.std.proofs.lemmas.Option.{slice_get_within}
use Rattle.mc_protocol.specs.Legal.{is_fit_for}
use Rattle.mc_script.specs.declared.step.Template.{Template}
use Rattle.mc_code.specs.{Calls.template_of, Code.Code}
use Rattle.mc_code.proofs.LookUps.{some_is}
use Rattle.mc_machine.proofs.Standing.{outstanding_is_named}
use Rattle.test_machine.proofs.play.exchange.Goals as goal

pub template-requires : goal.template-requires
template-requires c =
    let code : Code = c.args.checked.now.code in
    let stands = c.make_call.ensures.stands in
    let named = outstanding_is_named code c.make_call.new.machine stands.0 stands.1 stands.2 c.in-Some.call stands.3
    (c.in_ok-call.ensures.made ∙ c.in-Some.is) in
    rw c.code.ensures.code (slice_get_within code.templates c.in-Some.call.template (template_of code c.in-Some.call) named)

pub answer-requires-clause-fits : goal.answer-requires-clause-fits
answer-requires-clause-fits c =
    let code : Code = c.args.checked.now.code in
    let stands = c.make_call.ensures.stands in
    let waits = c.in_ok-call.ensures.made ∙ c.in-Some.is in
    let named = outstanding_is_named code c.make_call.new.machine stands.0 stands.1 stands.2 c.in-Some.call stands.3 waits in
    let here = subst (λ (code : Code). slice_get code.templates c.in-Some.call.template ≡ Some c.template.result.now) c.code.ensures.code
    c.template.ensures.template in
    let is : c.template.result.now ≡ template_of code c.in-Some.call = some_is _ _ (sym here ∙ named) in
    (c.in-Some.call, waits, ap (λ (t : Template). is_fit_for t.verb c.reply-reply.result) (sym is) ∙ sym c.may_answer.ensures ∙ c.if-not-may_answer.false)
