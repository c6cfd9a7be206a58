use Rattle.std.proofs.Common.{◌≡◌, take}
use Rattle.mc_model.proofs.cache.copy_entries.Given as goal

abbrev pub invariant-copying : goal.invariant-copying
invariant-copying l = l.copies.items ≡ take l.entry-index l.entries
