use Rattle.std.proofs.Common.{◌≡◌, [], ap, sym, subst, ◌∙◌}
use Rattle.mc_core.specs.{Held.IsHeldBy, Fields.world_in, Fields.held_in, Worlds.new_world}
use Rattle.mc_core.proofs.{HeldSteps.leaves_start, HeldSteps.started, world.World.start.Goals.After-begin_branches}
use Rattle.mc_core.proofs.world.World.start.Goals as goal

pub begin_branches-requires : goal.begin_branches-requires
begin_branches-requires c =
    let new = c.in_ok-new.ensures in λ done. leaves_start _ _ _ _ (new.machine, new.answered, new.ending) c.begin.ensures done

start : (c : After-begin_branches)
    → (world_in c.begin_branches.new.sections [] ≡ new_world) × IsHeldBy c.args.checked.now.code (held_in c.begin_branches.new.sections [])
start c =
    let p = c.in_ok-new.ensures in
    let a = c.in_ok-new-2.ensures in
    let b = c.in_ok-new-3.ensures in
    started c.args.checked.now.code _ _ c.begin_branches.new.sections c.begin.new.self (p.machine, p.answered, p.ending)
    (a.machine, a.answered, a.ending) (b.machine, b.answered, b.ending) c.begin.ensures c.begin_branches.ensures

pub returns-clause-new : goal.returns-clause-new
returns-clause-new c =
    ap (world_in c.begin_branches.new.sections) c.in_ok-notes.ensures.items ∙ (start (goal.at.returns-clause-new c).After-begin_branches).0

pub returns-clause-held : goal.returns-clause-held
returns-clause-held c =
    subst (λ notes. IsHeldBy c.args.checked.now.code (held_in c.begin_branches.new.sections notes)) (sym c.in_ok-notes.ensures.items)
    (start (goal.at.returns-clause-held c).After-begin_branches).1
