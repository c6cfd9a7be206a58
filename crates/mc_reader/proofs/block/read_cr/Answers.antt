use Rattle.std.proofs.Common.{◌-◌, length, take, [], ◌∷◌, ◌++◌, drop, get_or, refl, sym, ap, ◌∙◌}
use Rattle.std.proofs.lemmas.List.{drop_more, take_rest}
use Rattle.mc_reader.specs.{Block.IsBlockOf, Lines.CR, Replies.BlockEnds}
use Rattle.mc_reader.proofs.{Blocks.stray_cr, Blocks.not_byte, StepLemmas.step_after}
use Rattle.mc_reader.proofs.block.read_cr.Goals as goal

pub returns-then-byte-ne13 : goal.returns-then-byte-ne13
returns-then-byte-ne13 c =
    stray_cr c.args.hit c.args.body.items c.args.piece.now (drop 1 c.args.piece.now) (get_or c.args.piece.now 0 0) c.requires
    (not_byte (get_or c.args.piece.now 0 0) CR c.if-byte-ne13.true) (drop_more c.args.piece.now 0 0 c.in-len1-up.len_at_least)

pub returns-else-byte-ne13 : goal.returns-else-byte-ne13
returns-else-byte-ne13 c =
    step_after (BlockEnds c.args.hit) (IsBlockOf c.args.hit) c.args.body.items (CR ∷ [])
    (take (length c.args.piece.now - 1) (drop 1 c.args.piece.now))
    (c.args.body.items ++ CR ∷ []) c.args.piece.now c.read_lf.result refl
    (drop_more c.args.piece.now 0 0 c.in-len1-up.len_at_least ∙ ap (λ b. b ∷ drop 1 c.args.piece.now) c.if-byte-ne13.false
    ∙ ap (λ u. CR ∷ u) (sym (take_rest c.args.piece.now 1)))
    c.read_lf.ensures
