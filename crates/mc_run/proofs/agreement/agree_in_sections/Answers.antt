use Rattle.std.proofs.Common.{◌≡◌, true, false, sym, ◌∙◌}
use Rattle.mc_protocol.specs.declared.actor.Actor.TheVariants as actor
use Rattle.mc_run.specs.Agreement.{AgreesIn}
use Rattle.mc_run.proofs.Agreed.{last_answers}
use Rattle.mc_run.proofs.agreement.agree_in_sections.Goals as goal

pub returns-then-not-branch : goal.returns-then-not-branch
returns-then-not-branch g c = (
  λ (h : false ≡ true). absurd (cc),
  λ all. let clash = sym c.if-not-branch.true ∙ c.in_ok-agrees_in.ensures.1 (all actor.P) in cc,
)

pub returns-then-not-branch-2 : goal.returns-then-not-branch-2
returns-then-not-branch-2 g c = (
  λ (h : false ≡ true). absurd (cc),
  λ all. let clash = sym c.if-not-branch-2.true ∙ c.in_ok-agrees_in-2.ensures.1 (all actor.A) in cc,
)

pub returns : goal.returns
returns g c =
    last_answers (AgreesIn c.args.world.now c.args.history.now.sections c.args.lanes.now) c.agrees_in-3.result
    (c.in_ok-agrees_in.ensures.0 c.if-not-branch.false) (c.in_ok-agrees_in-2.ensures.0 c.if-not-branch-2.false) c.agrees_in-3.ensures
