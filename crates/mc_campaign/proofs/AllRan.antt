-- A campaign without bounds runs all its jobs.
use Rattle.std.proofs.Common.{◌≡◌, ◌∙◌, ◌++◌, ◌≤◌, ℕ, List, [], None, arith, ap, false, inl, inr, length, map}
use Rattle.std.specs.List.{range_with_len}
use Rattle.mc_campaign.specs.Runs.{AreRun, IsOver}
use Rattle.mc_campaign.specs.{declared.bounds.Bounds.Bounds, declared.campaign.Campaign.Campaign, declared.outcome.JobResult.JobResult}

all_over : (bounds : Bounds) (jobs kept unexplained : ℕ) → bounds.unexplained ≡ None → bounds.has_time ≡ false → kept ≤ jobs
    → IsOver bounds jobs kept unexplained → kept ≡ jobs
all_over bounds jobs kept unexplained unbound untimed few (inl all) = omega (arith, few, all)
all_over bounds jobs kept unexplained unbound untimed few (inr (inl (most, is, reached))) = absurd (cc (unbound, is))
all_over bounds jobs kept unexplained unbound untimed few (inr (inr (some, timed))) = absurd (cc (untimed, timed))

pub all_ran : {S : Type 0} (campaign : Campaign) (bounds : Bounds) (results : List (JobResult S)) → bounds.unexplained ≡ None
    → bounds.has_time ≡ false → AreRun campaign bounds results → map (λ r. r.job) results ≡ range_with_len campaign.first campaign.jobs
all_ran campaign bounds results unbound untimed run =
    run.numbers ∙ ap (range_with_len campaign.first) (all_over bounds campaign.jobs (length results) _ unbound untimed run.jobs run.ends)

-- a list that had no elements has those that were appended
pub from_none : {A : Type 0} (first kept more : List A) → first ≡ [] → kept ≡ first ++ more → kept ≡ more
from_none first kept more none is = is ∙ ap (λ l. l ++ more) none
