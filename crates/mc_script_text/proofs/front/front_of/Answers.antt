use Rattle.std.proofs.Common.{◌+◌, length, length-take-le, sym, ◌∙◌}
use Rattle.mc_script_text.proofs.FrontReads.{reaches-start, reaches-more, reaches-end, within-more}
use Rattle.mc_script_text.proofs.front.front_of.Goals as goal

pub lines-init : goal.lines-init
lines-init c = rw c.lines_with_terminator-lines.ensures.value (reaches-start c.args.text.now)

pub slice_bounds-result-end : goal.slice_bounds-result-end
slice_bounds-result-end c =
    let here = rw c.in-Some.ensures.steps at c.lines.invariant in
    let within = within-more c.args.text.now c.in-Some.line.now c.next.new.self c.lines.len here in
    sym (length-take-le (c.lines.len + length c.in-Some.line.now) c.args.text.now within)

pub returns-then-branch : goal.returns-then-branch
returns-then-branch c =
    let here = rw c.in-Some.ensures.steps at c.lines.invariant in
    reaches-end c.args.text.now c.in-Some.line.now c.next.new.self c.lines.len here (sym c.in_ok-is_end_line.ensures ∙ c.if-branch.true)

pub lines-preserved : goal.lines-preserved
lines-preserved c =
    let here = rw c.in-Some.ensures.steps at c.lines.invariant in
    reaches-more c.args.text.now c.in-Some.line.now c.next.new.self c.lines.len here (sym c.in_ok-is_end_line.ensures ∙ c.if-branch.false)
