use Rattle.std.proofs.Common.{◌≡◌, ◌++◌, take}
use Rattle.std.specs.List.{flat_map}
use Rattle.mc_timeline_why.specs.TimelineWhyText.{start_text}
use Rattle.mc_timeline_why.proofs.order.print_starts.Given as goal

abbrev pub invariant-starts : goal.invariant-starts
invariant-starts l = l.out.items ≡ l.initial.out.items ++ flat_map start_text (take l.key-index l.starts)
