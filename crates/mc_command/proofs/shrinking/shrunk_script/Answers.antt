use Rattle.std.proofs.Common.{subst}
use Rattle.mc_generate.specs.{Generated.generated, Shrunk.IsShrinking}
use Rattle.mc_command.proofs.shrinking.shrunk_script.Goals as goal

pub rounds-init : goal.rounds-init
rounds-init g c = subst (λ s. IsShrinking s c.new-shrinker.result) c.in_ok-script.ensures c.new-shrinker.ensures.shrinking

pub rounds-preserved : goal.rounds-preserved
rounds-preserved g c =
    let first = generated c.args.campaign.seed c.args.job in
    c.answer.ensures.shrinking first (c.in_ok-checked.ensures.shrinking first c.rounds.invariant)

pub returns : goal.returns
returns g c =
    let first = generated c.args.campaign.seed c.args.job in
    c.into_script.ensures.shrunk first (c.in_ok-checked.ensures.shrinking first c.rounds.invariant)
