-- What a judged run whose lanes were closed comes to.
use Rattle.std.proofs.Common.{◌≡◌, refl, sym, subst}
use Rattle.mc_code.specs.Code.{Code}
use Rattle.mc_model.specs.Notes.{History}
use Rattle.mc_core.specs.Held.{Held}
use Rattle.mc_explain.specs.declared.verdict.Verdict.{Verdict}
use Rattle.mc_run.specs.Agreement.{Agree, LaneRecords}
use Rattle.mc_trial.specs.Judged.{IsJudged}
use Rattle.mc_campaign.specs.Outcomes.{AreClosed, closed_lanes}
use Rattle.mc_campaign.proofs.Closing.{agree_closed}

pub judged_closed : (c : Code) (held : Held) (lanes closed : LaneRecords) (h : History) (v : Verdict) → IsJudged c held lanes h v
    → closed ≡ closed_lanes lanes → IsJudged c held closed h v × AreClosed closed
judged_closed c held lanes closed h v judged here = (
  record {
    agree = subst (λ l. Agree c held.world l) (sym here) (agree_closed c held.world lanes judged.agree);
    held_by = judged.held_by;
    trial = judged.trial;
    history = judged.history;
    stated = judged.stated;
  },
  subst AreClosed (sym here) (refl, refl, refl),
)
