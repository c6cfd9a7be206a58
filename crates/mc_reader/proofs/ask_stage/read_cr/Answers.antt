use Rattle.std.proofs.Common.{◌-◌, length, take, [], ◌∷◌, ◌++◌, drop, get_or, refl, sym, ap, ◌∙◌, Ok}
use Rattle.std.proofs.lemmas.List.{drop_more, take_rest}
use Rattle.mc_reader.specs.{AskEnds.ChunkEnds, AskStages.IsChunkAt, Lines.CR}
use Rattle.mc_reader.proofs.{AskSteps.stray_cr, AskSteps.ask_step_after, Blocks.not_byte}
use Rattle.mc_reader.proofs.ask_stage.read_cr.Goals as goal

pub returns-then-byte-ne13 : goal.returns-then-byte-ne13
returns-then-byte-ne13 c =
    let piece = c.args.piece.now in
    rw c.refused_chunk.ensures
    (stray_cr c.args.line c.args.body.items piece (take (length piece - 1) (drop 1 piece)) (get_or piece 0 0) c.requires
    (not_byte (get_or piece 0 0) CR c.if-byte-ne13.true)
    (drop_more piece 0 0 c.in-len1-up.len_at_least ∙ ap (λ u. get_or piece 0 0 ∷ u) (sym (take_rest piece 1))))

pub returns-else-byte-ne13 : goal.returns-else-byte-ne13
returns-else-byte-ne13 c =
    let piece = c.args.piece.now in
    ask_step_after (ChunkEnds c.args.line) (IsChunkAt c.args.line) c.args.body.items (CR ∷ []) (take (length piece - 1) (drop 1 piece))
    (c.args.body.items ++ CR ∷ []) piece (Ok c.read_lf.result) refl
    (drop_more piece 0 0 c.in-len1-up.len_at_least ∙ ap (λ b. b ∷ drop 1 piece) c.if-byte-ne13.false
    ∙ ap (λ u. CR ∷ u) (sym (take_rest piece 1)))
    c.read_lf.ensures
