use Rattle.std.proofs.Common.{sym, subst, ◌∙◌}
use Rattle.mc_core.specs.Held.{FindsFold}
use Rattle.mc_run.proofs.Agreed.{agreed, in_sections}
use Rattle.mc_run.proofs.agreement.find_agreed.Goals as goal

pub returns-then-branch : goal.returns-then-branch
returns-then-branch g c =
    let code = c.args.checked.now.code in
    let world = c.args.world.now.world in
    let replayed = subst (FindsFold code world) c.in-Some.is c.in_ok-replayed.ensures in (
      agreed code world c.in-Some.replayed c.in_ok-history.history.sections c.args.lanes.now replayed.0 replayed.1
          c.in_ok-history.ensures.sections (c.in_ok-agree_in_sections.ensures.0 c.if-branch.true),
      replayed.0,
      replayed.1,
      c.in_ok-history.ensures.same,
    )

pub returns-else-branch : goal.returns-else-branch
returns-else-branch g c agree =
    let code = c.args.checked.now.code in
    let world = c.args.world.now.world in
    let replayed = subst (FindsFold code world) c.in-Some.is c.in_ok-replayed.ensures in
    let all =
    in_sections code world c.in-Some.replayed c.in_ok-history.history.sections c.args.lanes.now replayed.0 replayed.1
    c.in_ok-history.ensures.sections agree in
    let clash = sym c.if-branch.false ∙ c.in_ok-agree_in_sections.ensures.1 all in
    absurd (cc)
