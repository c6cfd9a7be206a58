use Rattle.std.proofs.Common.{arith, ap, length}
use Rattle.mc_protocol.specs.declared.actor.Actor.TheVariants as actor
use Rattle.test_flow.proofs.table_tests.kinds_at.Goals as goal

pub at-requires-clause-declared : goal.at-requires-clause-declared
at-requires-clause-declared c = let many = (c.in_ok-tables.ensures actor.A).many in omega (arith, many)

pub at-requires-clause-inside : goal.at-requires-clause-inside
at-requires-clause-inside c =
    let some = c.if-vars-eq0.false in
    let long = ((c.in_ok-tables.ensures actor.A).each 0 (omega arith)).long in
    let size = ap length c.section.ensures in
    omega (arith, long, size)
