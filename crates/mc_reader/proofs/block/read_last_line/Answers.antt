use Rattle.std.proofs.Common.{◌≡◌, ◌+◌, ◌-◌, ◌∷◌, ◌++◌, length, take, drop, ap, ◌∙◌, subst, arith, length-drop, Ok}
use Rattle.std.proofs.lemmas.Result.{err_from_is_err_and}
use Rattle.mc_reader.specs.{Gathered.IsGathered, Lines.CR, Lines.LF, Lines.end_says, Replies.BlockEnds, Replies.hit_of, Steps.EndsAt}
use Rattle.mc_reader.proofs.{Blocks.end_is, Blocks.last_ends, Gathers.line_is, StepLemmas.last_gather_fault, StepLemmas.last_line_fault}
use Rattle.mc_reader.proofs.block.read_last_line.Goals as goal

pub returns-in_err-at : goal.returns-in_err-at
returns-in_err-at c =
    let p = err_from_is_err_and c.from_residual.result c.from_residual.ensures.1 in
    rw (p.1, p.2) (last_gather_fault c.args.hit c.args.body.items c.args.start.items c.gather.new.start.items c.args.piece.now
    c.in_err-at.field-0.0 c.requires.body c.in_err-at.ensures)

pub returns-in_err-read_end : goal.returns-in_err-read_end
returns-in_err-read_end c =
    let p = err_from_is_err_and c.from_residual-in_err-read_end.result c.from_residual-in_err-read_end.ensures.1 in
    let g : IsGathered c.args.start.items c.gather.new.start.items c.args.piece.now c.in-Some.at = rw c.in-Some.is at c.in_ok-at.ensures in
    let line = line_is c.args.start.items c.gather.new.start.items (take c.in-Some.at c.args.piece.now) c.joined.result.now g.kept
    c.joined.ensures in
    rw (p.1, p.2) (last_line_fault c.args.hit c.args.body.items c.args.start.items c.gather.new.start.items c.args.piece.now
    c.joined.result.now
    c.in-Some.at c.in_err-read_end.field-0.0 c.requires.body g line c.in_err-read_end.ensures)

pub returns : goal.returns
returns c =
    let g : IsGathered c.args.start.items c.gather.new.start.items c.args.piece.now c.in-Some.at = rw c.in-Some.is at c.in_ok-at.ensures in
    let line = line_is c.args.start.items c.gather.new.start.items (take c.in-Some.at c.args.piece.now) c.joined.result.now g.kept
    c.joined.ensures in
    let hit = hit_of c.args.hit c.args.body.items in
    let says : Ok hit ≡ end_says hit (c.args.start.items ++ take c.in-Some.at c.args.piece.now) =
    end_is hit c.joined.result.now c.in_ok-read_end.ensures ∙ ap (end_says hit) line in
    let ends = last_ends c.args.hit c.args.body.items c.args.start.items c.gather.new.start.items c.args.piece.now c.in-Some.at (Ok hit)
    c.requires.body g says in
    let left = length-drop (c.in-Some.at + 1) c.args.piece.now in
    let count : length (drop (c.in-Some.at + 1) c.args.piece.now) ≡ length c.args.piece.now - c.in-Some.at - 1 = omega arith in
    rw c.new.ensures (subst
    (λ n. EndsAt (BlockEnds c.args.hit) (c.args.body.items ++ CR ∷ LF ∷ c.args.start.items) c.args.piece.now (Ok hit) n) count ends)
