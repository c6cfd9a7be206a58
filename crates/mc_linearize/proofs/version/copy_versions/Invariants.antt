use Rattle.std.proofs.Common.{◌≡◌, take}
use Rattle.mc_linearize.proofs.version.copy_versions.Given as goal

abbrev pub invariant-copying : goal.invariant-copying
invariant-copying l = l.copies.items ≡ take l.version-index l.versions
