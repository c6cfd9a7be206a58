use Rattle.std.proofs.Common.{◌+◌, Bool, false, if◌then◌else◌, ◌∙◌, subst}
use Rattle.std.specs.FinMap as finite_map
use Rattle.mc_model.specs.Act as act
use Rattle.mc_model.specs.Decide.{change_at}
use Rattle.mc_server.specs.Stores.{AreBelow}
use Rattle.mc_server.proofs.Below.{below_changed}
use Rattle.mc_server.proofs.store.Store.apply.Goals as goal
use Rattle.mc_server.proofs.store.Store.apply.Goals.{then-counts, else-counts}

pub invariant_of-self-2 : goal.invariant_of-self-2
invariant_of-self-2 c =
    let request = c.args.request.now in
    let n = c.self.inside.next in
    let items = c.self.inside.items in
    let found = finite_map.get items request.key in
    let counted = rw (← c.self.view_is) at c.requires.counts in
    let below = below_changed request false n items found c.args.change c.self.invariant in
    let counts : Bool → Type 0 = λ b. AreBelow (if b then n + 1 else n) (act.with_change items request.key (change_at request false n found c.args.change)) in
    elim c.if-counts.branch [
      | then-counts w ↦ rw (w.self-inside-is, c.in_ok-apply.ensures.ok) (subst counts (counted ∙ w.if-counts.true) below)
      | else-counts w ↦ rw (w.self-inside-is, c.in_ok-apply.ensures.ok) (subst counts (counted ∙ w.if-counts.false) below)
    ]
