use Rattle.std.proofs.Common.{◌≡◌, ◌++◌, drop}
use Rattle.mc_timeline.specs.{Timelines.restricted, Timelines.restricted_after, Restrictions.waiting_in}
use Rattle.mc_timeline.proofs.restriction.restrict.Given as goal

-- what was kept, and what is kept of the other notes, is all that is kept
abbrev pub invariant-notes : goal.invariant-notes
invariant-notes l =
    l.kept.items ++ restricted_after (waiting_in l.waiting) l.key (drop l.client-index l.timeline) ≡ restricted l.key l.timeline
