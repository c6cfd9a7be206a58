use Rattle.std.proofs.Common.{arith}
use Rattle.mc_settings.proofs.FittingKeys.{key-length}
use Rattle.mc_settings.proofs.fitting.key_len.Goals as goal

pub returns-clause-first : goal.returns-clause-first
returns-clause-first c = omega (arith, key-length c.args.job 0 (omega arith), c.decimal_len.ensures.len)

pub returns-clause-second : goal.returns-clause-second
returns-clause-second c = omega (arith, key-length c.args.job 1 (omega arith), c.decimal_len.ensures.len)
