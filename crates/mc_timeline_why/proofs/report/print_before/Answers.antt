use Rattle.std.proofs.Common.{ap, ◌∙◌, ◌++◌, List}
use Rattle.std.proofs.lemmas.Result.{on_ok_weaker}
use Rattle.mc_timeline.specs.Timelines.{ClientNote, restricted}
use Rattle.mc_timeline_why.specs.TimelineWhyText.{explained_text}
use Rattle.mc_timeline_why.proofs.report.print_before.Goals as goal

pub returns : goal.returns
returns c =
    on_ok_weaker c.print_explained.result
    (λ e. e ∙ ap (λ (l : List ClientNote). c.args.out.now.items ++ explained_text l c.args.cause.now.explanation)
    (c.in_ok-before.ensures.kept ∙ ap (λ (l : List ClientNote). restricted c.args.key.now l) c.in_ok-cut.ensures))
    c.print_explained.ensures
