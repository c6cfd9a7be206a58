-- Verdicts on the same notes.
use Rattle.mc_explain.specs.declared.verdict.Verdict.TheVariants as verdict
use Rattle.mc_linearize.specs.declared.verdict.TimelineVerdict.TheVariants as whole
use Rattle.mc_timeline_of.specs.SameVerdicts.{VerdictsAgree}
use Rattle.mc_timeline_of.proofs.Explaining.{are_explained_alike}

pub agree : VerdictsAgree
agree notes (verdict.Explained claim) (whole.Unexplained key) is_history of_history of_timeline both =
    of_timeline.together ((are_explained_alike notes is_history).0 (claim, of_history))
agree notes verdict.Unexplained (whole.Explained claim) is_history of_history of_timeline both =
    let explained = (are_explained_alike notes is_history).1
    (record { start = claim.start; effected = of_timeline.effected; explains = of_timeline.explains }) in
    of_history explained.0 explained.1
agree notes (verdict.Explained claim) (whole.Explained other) is_history of_history of_timeline both = both
agree notes (verdict.Explained claim) (whole.Undecided key) is_history of_history of_timeline both = both
agree notes verdict.Unexplained (whole.Unexplained key) is_history of_history of_timeline both = both
agree notes verdict.Unexplained (whole.Undecided key) is_history of_history of_timeline both = both
agree notes verdict.Undecided of_timeline is_history t o both = both
