use Rattle.std.proofs.Common.{◌-◌, length, take, [], ◌∷◌, ◌++◌, drop, get_or, sym, ap, ◌∙◌, append_assoc}
use Rattle.std.proofs.lemmas.List.{drop_more, take_rest}
use Rattle.mc_reader.specs.{Block.IsBlockOf, Lines.CR, Lines.LF, Replies.BlockEnds}
use Rattle.mc_reader.proofs.{Blocks.stray_lf, Blocks.not_byte, StepLemmas.step_after}
use Rattle.mc_reader.proofs.block.read_lf.Goals as goal

pub returns-then-byte-ne10 : goal.returns-then-byte-ne10
returns-then-byte-ne10 c =
    stray_lf c.args.hit c.args.body.items c.args.piece.now (drop 1 c.args.piece.now) (get_or c.args.piece.now 0 0) c.requires
    (not_byte (get_or c.args.piece.now 0 0) LF c.if-byte-ne10.true) (drop_more c.args.piece.now 0 0 c.in-len1-up.len_at_least)

pub returns-else-byte-ne10 : goal.returns-else-byte-ne10
returns-else-byte-ne10 c =
    step_after (BlockEnds c.args.hit) (IsBlockOf c.args.hit) (c.args.body.items ++ CR ∷ []) (LF ∷ [])
    (take (length c.args.piece.now - 1) (drop 1 c.args.piece.now))
    (c.args.body.items ++ CR ∷ LF ∷ c.new.result.items) c.args.piece.now c.read_last_line.result
    (ap (λ u. c.args.body.items ++ CR ∷ LF ∷ u) c.new.ensures.items ∙ sym (append_assoc c.args.body.items (CR ∷ []) (LF ∷ [])))
    (drop_more c.args.piece.now 0 0 c.in-len1-up.len_at_least ∙ ap (λ b. b ∷ drop 1 c.args.piece.now) c.if-byte-ne10.false
    ∙ ap (λ u. LF ∷ u) (sym (take_rest c.args.piece.now 1)))
    c.read_last_line.ensures
