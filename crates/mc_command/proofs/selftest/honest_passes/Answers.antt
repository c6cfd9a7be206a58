use Rattle.std.proofs.Common.{◌≡◌, [], refl, subst, sym}
use Rattle.std.proofs.lemmas.List.{append-nil}
use Rattle.mc_campaign.specs.ReportStatus.{status_of}
use Rattle.mc_campaign.proofs.AllRan.{all_ran, from_none}
use Rattle.mc_command.proofs.selftest.honest_passes.Goals as goal

pub returns-in-Ok : goal.returns-in-Ok
returns-in-Ok g c clean =
    let run = c.in-Ok.ensures c.new-2.result [] (sym (append-nil c.new-2.result.all.items)) in
    let same = from_none c.new-2.result.all.items c.in-Ok.results.all.items run.0 c.new-2.ensures run.1 in (
      run.0,
      record {
        jobs_in_order = all_ran _ _ run.0 refl refl run.2;
        outcomes = run.2.outcomes;
        short = run.2.short;
      },
      subst (λ l. status_of l ≡ 0) same (c.are_clean.ensures clean),
    )
