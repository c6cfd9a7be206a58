use Rattle.std.proofs.Common.{sym, ap, ◌∙◌, arith}
use Rattle.mc_core.specs.Held.{Held}
use Rattle.mc_core.proofs.SameWorlds.{refolded, other_logs, none_skipped}
use Rattle.mc_core.proofs.world.World.replay.Goals as goal

pub returns-then-skipped-ne0 : goal.returns-then-skipped-ne0
returns-then-skipped-ne0 c fold =
    let none =
    none_skipped c.args.checked.now.code c.args.self.now.world c.in_ok-events.events.items c.in_ok-world.world.world c.in_ok-world.skipped
    (c.in_ok-events.ensures ∙ c.notes.ensures.notes) c.in_ok-world.ensures.fold fold in
    absurd (omega arith)

pub returns-then-have_same_logs : goal.returns-then-have_same_logs
returns-then-have_same_logs c = (
  refolded c.args.checked.now.code c.args.self.now.world c.in_ok-events.events.items c.in_ok-world.world.world c.in_ok-world.skipped
      c.self.inside.sections c.world.inside.sections c.self.inside.notes.items c.world.inside.notes.items
      (c.in_ok-events.ensures ∙ c.notes.ensures.notes) c.in_ok-world.ensures.fold (omega arith)
      (ap (λ (h : Held). h.world) c.self.view_is) (ap (λ (h : Held). h.world) c.world.view_is)
      (c.have_same_logs.ensures.0 c.if-have_same_logs.true),
  c.in_ok-world.ensures.held,
)

pub returns-else-have_same_logs : goal.returns-else-have_same_logs
returns-else-have_same_logs c fold =
    let logs =
    other_logs c.args.checked.now.code c.args.self.now.world c.in_ok-events.events.items c.in_ok-world.world.world c.in_ok-world.skipped
    c.self.inside.sections c.world.inside.sections c.self.inside.notes.items c.world.inside.notes.items
    (c.in_ok-events.ensures ∙ c.notes.ensures.notes) c.in_ok-world.ensures.fold
    (ap (λ (h : Held). h.world) c.self.view_is) (ap (λ (h : Held). h.world) c.world.view_is)
    c.self.invariant.sections c.world.invariant.sections fold in
    let clash = sym c.if-have_same_logs.false ∙ c.have_same_logs.ensures.1 logs in
    absurd (cc)
