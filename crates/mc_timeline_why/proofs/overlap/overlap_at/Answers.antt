use Rattle.std.specs.Prelude.{IfOk}
use Rattle.std.proofs.Common.{◌≡◌, subst, ◌∙◌, List}
use Rattle.mc_timeline.specs.Timelines.{ClientNote}
use Rattle.mc_timeline_why.specs.Fronts.{open_from}
use Rattle.mc_timeline_why.proofs.overlap.overlap_at.Goals as goal

pub returns : goal.returns
returns c =
    subst (λ (l : List ClientNote). IfOk c.open_requests.result (λ places. places.items ≡ open_from c.args.key.now 0 l))
    (c.notes.ensures.notes ∙ c.in_ok-before.ensures)
    c.open_requests.ensures
