use Rattle.std.proofs.Common.{append_assoc, ap, codes, ◌∙◌, ◌++◌, ℕ, List}
use Rattle.std.proofs.lemmas.Result.{on_ok_weaker}
use Rattle.std.specs.List.{flat_map}
use Rattle.mc_timeline.specs.Timelines.{ClientNote}
use Rattle.mc_timeline_why.specs.TimelineWhyText.{order_text, start_text}
use Rattle.mc_timeline_why.proofs.order.print_parts.Goals as goal

pub returns : goal.returns
returns c =
    let out = c.args.out.now.items in
    let head = codes "explained before\n" in
    let starts = flat_map start_text c.args.starts.now in
    let moves = order_text c.args.before.now (λ (client : ℕ). 0) c.args.moves.now in
    on_ok_weaker c.print_moves.result
    (λ e. e ∙ ap (λ (l : List ClientNote). c.print_starts.new.out.items ++ order_text l (λ (client : ℕ). 0) c.args.moves.now) c.notes.ensures.notes
    ∙ ap (λ (l : List ℕ). l ++ moves) c.in_ok-print_starts.ensures
    ∙ ap (λ (l : List ℕ). (l ++ starts) ++ moves) c.in_ok-extend_from_slice.ensures.items
    ∙ append_assoc (out ++ head) starts moves ∙ append_assoc out head (starts ++ moves))
    c.print_moves.ensures
