use Rattle.std.proofs.Common.{refl, sym, subst}
use Rattle.mc_core.specs.Fields.{AllTake}
use Rattle.mc_core.proofs.section.take_event.Goals as goal

pub returns-in-P : goal.returns-in-P
returns-in-P c =
    subst (λ who. AllTake c.args.checked.now.code c.args.sections.now who c.args.event.now c.begin_branches.new.sections) (sym c.in-P.is)
    (c.take.new.self, c.take.ensures, c.begin_branches.ensures)

pub returns-in-A : goal.returns-in-A
returns-in-A c =
    subst (λ who. AllTake c.args.checked.now.code c.args.sections.now who c.args.event.now (record c.args.sections.now { a = c.take-in-A.new.self }))
    (sym c.in-A.is) (c.take-in-A.new.self, c.take-in-A.ensures, refl)

pub returns-in-B : goal.returns-in-B
returns-in-B c =
    subst (λ who. AllTake c.args.checked.now.code c.args.sections.now who c.args.event.now (record c.args.sections.now { b = c.take-in-B.new.self }))
    (sym c.in-B.is) (c.take-in-B.new.self, c.take-in-B.ensures, refl)
