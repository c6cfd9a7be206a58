use Rattle.std.proofs.Common.{◌∙◌, ◌++◌, [], refl, subst, sym}
use Rattle.std.proofs.lemmas.List.{append-nil}
use Rattle.mc_campaign.proofs.AllRan.{all_ran, from_none}
use Rattle.mc_campaign.proofs.workers.run_campaign.Goals as goal

pub returns-clause-jobs : goal.returns-clause-jobs
returns-clause-jobs g c =
    let run = c.in_ok-results.ensures c.new.result [] (sym (append-nil c.new.result.all.items)) in
    let same = from_none c.new.result.all.items c.in_ok-results.results.all.items run.0 c.new.ensures run.1 in
    rw same (all_ran _ _ run.0 refl refl run.2)

pub returns-clause-outcomes : goal.returns-clause-outcomes
returns-clause-outcomes g c =
    let run = c.in_ok-results.ensures c.new.result [] (sym (append-nil c.new.result.all.items)) in
    rw (from_none c.new.result.all.items c.in_ok-results.results.all.items run.0 c.new.ensures run.1) run.2.outcomes

pub returns-clause-turns : goal.returns-clause-turns
returns-clause-turns g c =
    let run = c.in_ok-results.ensures c.new.result [] (sym (append-nil c.new.result.all.items)) in
    rw (from_none c.new.result.all.items c.in_ok-results.results.all.items run.0 c.new.ensures run.1) run.2.turns
