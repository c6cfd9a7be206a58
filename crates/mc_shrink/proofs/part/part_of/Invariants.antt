use Rattle.std.proofs.Common.{◌≡◌, ◌++◌, drop}
use Rattle.mc_timeline.specs.Restrictions.{waiting_in}
use Rattle.mc_shrink.specs.Parts.{part_after, part_of, stays_by}
use Rattle.mc_shrink.proofs.part.part_of.Given as goal

-- what stayed, and what stays of the other notes, is all that stays
abbrev pub invariant-notes : goal.invariant-notes
invariant-notes l =
    l.builder ++ part_after (waiting_in l.waiting) (stays_by l.goes) l.place (drop l.place l.notes) ≡ part_of (stays_by l.goes) l.notes
