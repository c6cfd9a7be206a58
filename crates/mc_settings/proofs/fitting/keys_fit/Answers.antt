use Rattle.std.proofs.Common.{arith}
use Rattle.mc_settings.proofs.FittingKeys.{fits-with-last}
use Rattle.mc_settings.proofs.fitting.keys_fit.Goals as goal

pub returns : goal.returns
returns c =
    rw c.as_slice.ensures.name (fits-with-last c.args.name.now c.args.first c.args.jobs c.key_len.result
    (omega (arith, c.if-jobs-eq0.false)) c.requires c.key_len.ensures.first)
