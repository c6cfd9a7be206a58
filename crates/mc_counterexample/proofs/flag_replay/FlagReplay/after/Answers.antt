use Rattle.std.proofs.Common.{sym, subst, ◌∙◌}
use Rattle.std.proofs.lemmas.Option.{slice_get_within}
use Rattle.mc_script.specs.declared.step.Template.{Template}
use Rattle.mc_code.proofs.LookUps.{some_is}
use Rattle.mc_counterexample.specs.Replays.{GoesOn}
use Rattle.mc_counterexample.proofs.FlagReplays.{lacks_after, lacks_none}
use Rattle.mc_counterexample.proofs.flag_replay.FlagReplay.after.Goals as goal

pub template-requires : goal.template-requires
template-requires c =
    let some = c.in-Some.ensures.some in
    slice_get_within c.args.code.now.templates c.in-Some.step.template some.0 some.1

pub returns-in-Some-clause-some : goal.returns-in-Some-clause-some
returns-in-Some-clause-some c =
    let some = c.in-Some.ensures.some in
    let same = some_is some.0 c.template.result.now (sym some.1 ∙ c.template.ensures.template) in
    let goes = subst (λ (t : Template). GoesOn c.args.code.now c.args.named c.args.self.now.places c.args.reply.0 t c.args.reply.1 c.in-Some.step.places)
    same some.2 in
    lacks_after c.args.code.now c.args.named c.args.self.now (record { places = c.in-Some.step.places; flags = c.after.result }) c.args.reply.0
    c.template.result.now c.args.reply.1 (record { goes = goes; flags = c.after.ensures })

pub returns-in-None-clause-none : goal.returns-in-None-clause-none
returns-in-None-clause-none c = lacks_none c.args.code.now c.args.named c.args.self.now c.args.reply.0 c.args.reply.1 c.in-None.ensures.none
