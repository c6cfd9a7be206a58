use Rattle.std.proofs.Common.{◌≡◌, drop}
use Rattle.mc_timeline_why.specs.TimelineWhyText.{first_reply}
use Rattle.mc_timeline_why.proofs.order.first_reply.Given as goal

abbrev pub invariant-notes : goal.invariant-notes
invariant-notes l = first_reply l.client (drop l.who-index l.notes) ≡ first_reply l.client l.notes
