-- What a campaign writes, whatever it comes to.
use Rattle.std.specs.Prelude.{ℕ, Option, List}
use Rattle.mc_cli.specs.declared.args.Plan.{Plan}
use Rattle.mc_answers.specs.{Writing.WritesBy, declared.status.Status.Status}
use Rattle.mc_command.specs.CampaignReports.{Campaigns}

-- what was written of the campaign, with its keys under the name, if there is one, is right, or that memory ran out; and so is the status
abbrev pub WritesReport : Plan → Option (List ℕ) → Option (List ℕ) → Option (List ℕ) → Status → Type 0
WritesReport plan name old new ended = WritesBy (Campaigns plan name) old new ended
