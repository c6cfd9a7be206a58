use Rattle.std.proofs.Common.{◌≡◌, ◌+◌, ◌-◌, [], ◌++◌, length, take, drop, sym, subst, arith, length-drop, Ok, Err}
use Rattle.std.proofs.{lemmas.List.take_rest, lemmas.Result.err_from_is_err_and}
use Rattle.mc_reader.specs.declared.said.Said.TheVariants.{Hit, Whole}
use Rattle.mc_reader.specs.{Block.IsBlockOf, Gathered.IsGathered, Replies.BlockEnds, Replies.Ends, Steps.EndsAt, Steps.IsStep}
use Rattle.mc_reader.proofs.StepLemmas.{first_gather_fault, first_line_fault, hit_more, hit_done, hit_fault, block_step, says_at}
use Rattle.mc_reader.proofs.{FirstLines.first_ends, Gathers.line_is}
use Rattle.mc_reader.proofs.stage.read_first_line.Goals as goal

pub returns-in_err-at : goal.returns-in_err-at
returns-in_err-at c =
    let p = err_from_is_err_and c.from_residual.result c.from_residual.ensures.1 in
    rw (p.1, p.2) (first_gather_fault c.args.shape.verb c.args.shape.key.now c.args.start.items c.gather.new.start.items c.args.piece.now
    c.in_err-at.field-0.0 c.in_err-at.ensures)

pub returns-in_err-reply : goal.returns-in_err-reply
returns-in_err-reply c =
    let p = err_from_is_err_and c.from_residual-in_err-reply.result c.from_residual-in_err-reply.ensures.1 in
    let g : IsGathered c.args.start.items c.gather.new.start.items c.args.piece.now c.in-Some.at = rw c.in-Some.is at c.in_ok-at.ensures in
    let line = line_is c.args.start.items c.gather.new.start.items (take c.in-Some.at c.args.piece.now) c.joined.result.now g.kept
    c.joined.ensures in
    rw (p.1, p.2) (first_line_fault c.args.shape.verb c.args.shape.key.now c.args.start.items c.gather.new.start.items c.args.piece.now
    c.joined.result.now c.in-Some.at c.in_err-reply.field-0.0 g line (sym c.in_err-reply.ensures))

pub returns-in_err-step-in-Hit : goal.returns-in_err-step-in-Hit
returns-in_err-step-in-Hit c =
    let p = err_from_is_err_and c.from_residual-in_err-step-in-Hit.result c.from_residual-in_err-step-in-Hit.ensures.1 in
    let verb = c.args.shape.verb in
    let key = c.args.shape.key.now in
    let start = c.args.start.items in
    let piece = c.args.piece.now in
    let at = c.in-Some.at in
    let fault = c.in_err-step-in-Hit.field-0.0 in
    let g : IsGathered start c.gather.new.start.items piece at = rw c.in-Some.is at c.in_ok-at.ensures in
    let line = line_is start c.gather.new.start.items (take at piece) c.joined.result.now g.kept c.joined.ensures in
    let says = says_at verb key c.joined.result.now (start ++ take at piece) c.in_ok-reply.field-0 (Hit c.in-Hit.hit) line
    c.in_ok-reply.ensures c.in-Hit.is in
    let step = block_step c.in-Hit.hit c.in_ok-new-in-Hit.field-0 [] (take (length piece - (at + 1)) (drop (at + 1) piece)) (Err fault)
    c.in_ok-new-in-Hit.ensures c.in_err-step-in-Hit.ensures in
    let after = subst (λ u. IsStep (BlockEnds c.in-Hit.hit) (IsBlockOf c.in-Hit.hit) [] u (Err fault)) (take_rest piece (at + 1)) step in
    rw (p.1, p.2) (hit_fault verb key start c.gather.new.start.items piece at c.in-Hit.hit g says fault after)

pub returns-in-Whole : goal.returns-in-Whole
returns-in-Whole c =
    let verb = c.args.shape.verb in
    let key = c.args.shape.key.now in
    let start = c.args.start.items in
    let piece = c.args.piece.now in
    let at = c.in-Some.at in
    let g : IsGathered start c.gather.new.start.items piece at = rw c.in-Some.is at c.in_ok-at.ensures in
    let line = line_is start c.gather.new.start.items (take at piece) c.joined.result.now g.kept c.joined.ensures in
    let says = says_at verb key c.joined.result.now (start ++ take at piece) c.in_ok-reply.field-0 (Whole c.in-Whole.reply) line
    c.in_ok-reply.ensures c.in-Whole.is in
    let ends = first_ends verb key start c.gather.new.start.items piece at (Ok c.in-Whole.reply) g says in
    let left = length-drop (at + 1) piece in
    let count : length (drop (at + 1) piece) ≡ length piece - at - 1 = omega arith in
    subst (λ n. EndsAt (Ends verb key) start piece (Ok c.in-Whole.reply) n) count ends

pub returns-in_ok-owned-in-More : goal.returns-in_ok-owned-in-More
returns-in_ok-owned-in-More c =
    let verb = c.args.shape.verb in
    let key = c.args.shape.key.now in
    let start = c.args.start.items in
    let piece = c.args.piece.now in
    let at = c.in-Some.at in
    let g : IsGathered start c.gather.new.start.items piece at = rw c.in-Some.is at c.in_ok-at.ensures in
    let line = line_is start c.gather.new.start.items (take at piece) c.joined.result.now g.kept c.joined.ensures in
    let says = says_at verb key c.joined.result.now (start ++ take at piece) c.in_ok-reply.field-0 (Hit c.in-Hit.hit) line
    c.in_ok-reply.ensures c.in-Hit.is in
    let kept = line_is start c.gather.new.start.items (take at piece) c.in_ok-owned-in-More.field-0.items g.kept c.in_ok-owned-in-More.ensures in
    let step = block_step c.in-Hit.hit c.in_ok-new-in-Hit.field-0 [] (take (length piece - (at + 1)) (drop (at + 1) piece))
    (Ok c.in_ok-step-in-Hit.step)
    c.in_ok-new-in-Hit.ensures c.in_ok-step-in-Hit.ensures in
    let after = subst (λ u. IsStep (BlockEnds c.in-Hit.hit) (IsBlockOf c.in-Hit.hit) [] u (Ok c.in_ok-step-in-Hit.step))
    (take_rest piece (at + 1)) step in
    let known = rw c.in-More.is at after in
    hit_more verb key start c.gather.new.start.items piece at c.in-Hit.hit g says c.in_ok-owned-in-More.field-0 c.in-More.block kept known

pub returns-in-Done : goal.returns-in-Done
returns-in-Done c =
    let verb = c.args.shape.verb in
    let key = c.args.shape.key.now in
    let start = c.args.start.items in
    let piece = c.args.piece.now in
    let at = c.in-Some.at in
    let g : IsGathered start c.gather.new.start.items piece at = rw c.in-Some.is at c.in_ok-at.ensures in
    let line = line_is start c.gather.new.start.items (take at piece) c.joined.result.now g.kept c.joined.ensures in
    let says = says_at verb key c.joined.result.now (start ++ take at piece) c.in_ok-reply.field-0 (Hit c.in-Hit.hit) line
    c.in_ok-reply.ensures c.in-Hit.is in
    let step = block_step c.in-Hit.hit c.in_ok-new-in-Hit.field-0 [] (take (length piece - (at + 1)) (drop (at + 1) piece))
    (Ok c.in_ok-step-in-Hit.step)
    c.in_ok-new-in-Hit.ensures c.in_ok-step-in-Hit.ensures in
    let after = subst (λ u. IsStep (BlockEnds c.in-Hit.hit) (IsBlockOf c.in-Hit.hit) [] u (Ok c.in_ok-step-in-Hit.step))
    (take_rest piece (at + 1)) step in
    let known = rw c.in-Done.is at after in
    hit_done verb key start c.gather.new.start.items piece at c.in-Hit.hit g says c.in-Done.reply c.in-Done.unread known
