use Rattle.std.proofs.Common.{◌≤◌, arith}
use Rattle.mc_protocol.specs.Decimals.{MAX_64}
use Rattle.mc_generate.proofs.NameFacts.{declared}
use Rattle.mc_generate.proofs.names.names_of.Goals as goal

pub new-requires : goal.new-requires
new-requires c =
    let small : c.args.job ≤ MAX_64 = omega arith in
    rw (c.in_ok-keys.ensures, c.in_ok-flags.ensures, c.in_ok-vars.ensures) (declared c.args.job small)
