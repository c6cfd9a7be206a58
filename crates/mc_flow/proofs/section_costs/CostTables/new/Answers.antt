use Rattle.mc_protocol.specs.declared.actor.Actor.TheVariants as actor
use Rattle.mc_flow.proofs.CostSpread.{costs_spread}
use Rattle.mc_flow.proofs.section_costs.CostTables.new.Goals as goal

pub returns-clause-exact : goal.returns-clause-exact
returns-clause-exact c =
    let code = c.args.code.now in
    let is = c.new.ensures.kept in
    record {
      weights = c.in_ok-weights.ensures.exact;
      exact = elim [
        | actor.P ↦ costs_spread code actor.P c.in_ok-p.p.items is (c.requires actor.P) c.in_ok-p.ensures.long c.in_ok-p.ensures.exact
        | actor.A ↦ costs_spread code actor.A c.in_ok-a.a.items is (c.requires actor.A) c.in_ok-a.ensures.long c.in_ok-a.ensures.exact
        | actor.B ↦ costs_spread code actor.B c.in_ok-b.b.items is (c.requires actor.B) c.in_ok-b.ensures.long c.in_ok-b.ensures.exact
      ];
    }
