use Rattle.std.proofs.Common.{List, [], sym, subst, take}
use Rattle.mc_timeline.specs.{Rules.IsTimeline, Timelines.ClientNote}
use Rattle.mc_timeline_why.proofs.Fronts.{kept_front}
use Rattle.mc_timeline_why.proofs.cutting.cut_timeline.Goals as goal

pub timeline_of-requires : goal.timeline_of-requires
timeline_of-requires c =
    subst IsTimeline (sym c.first.ensures)
    (subst (λ (l : List ClientNote). IsTimeline (take c.args.count l)) (sym c.notes.ensures.notes)
    (kept_front [] c.args.timeline.now c.args.count c.notes.ensures.timeline))
