use Rattle.std.proofs.Common.{sym, subst}
use Rattle.mc_protocol.specs.declared.actor.Actor.TheVariants as actor
use Rattle.mc_counterexample.specs.Replays.{IsAnswered, AreInside}
use Rattle.mc_counterexample.proofs.InterleavingEnds.{inside_moved}
use Rattle.mc_counterexample.proofs.places.go_on.Goals as goal

pub may_follow-requires-clause-structured : goal.may_follow-requires-clause-structured
may_follow-requires-clause-structured c = c.requires.structured actor.P

pub may_follow-requires-clause-inside : goal.may_follow-requires-clause-inside
may_follow-requires-clause-inside c = c.requires.inside actor.P

pub answer-requires-clause-structured : goal.answer-requires-clause-structured
answer-requires-clause-structured c = c.requires.structured c.args.section

pub returns-in-Some-clause-inside : goal.returns-in-Some-clause-inside
returns-in-Some-clause-inside c =
    subst (AreInside c.args.code.now) (sym c.moved.ensures)
    (inside_moved c.args.code.now c.args.places.now c.args.section c.in-Some.answered.place c.requires.inside c.in-Some.ensures.inside)

pub returns-in-None-clause-none : goal.returns-in-None-clause-none
returns-in-None-clause-none c t others goes =
    c.in-None.ensures.none t goes.place
    (subst (λ from. IsAnswered c.args.code.now c.args.section from t c.args.class goes.place) (sym c.get.ensures) goes.answered)
