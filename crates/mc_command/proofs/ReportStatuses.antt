-- The exit status after a job is one of three.
use Rattle.std.proofs.Common.{refl, inl, inr, Bool, true, false}
use Rattle.mc_campaign.specs.ReportStatus.{status_by}
use Rattle.mc_command.specs.CampaignAnswers.{IsReportStatus}

pub one_of_three : (accuses : Bool) (clean : Bool) → IsReportStatus (status_by accuses clean)
one_of_three true clean = inr (inl refl)
one_of_three false true = inl refl
one_of_three false false = inr (inr refl)
