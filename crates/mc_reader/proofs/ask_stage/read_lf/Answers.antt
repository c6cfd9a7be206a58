use Rattle.std.proofs.Common.{◌-◌, length, take, ◌∷◌, drop, get_or, sym, ap, ◌∙◌}
use Rattle.std.proofs.lemmas.List.{drop_more, take_rest}
use Rattle.mc_reader.specs.Lines.{LF}
use Rattle.mc_reader.proofs.{AskSteps.stray_lf, AskSteps.chunk_whole, Blocks.not_byte}
use Rattle.mc_reader.proofs.ask_stage.read_lf.Goals as goal

pub returns-then-byte-ne10 : goal.returns-then-byte-ne10
returns-then-byte-ne10 c =
    let piece = c.args.piece.now in
    rw c.refused_chunk.ensures
    (stray_lf c.args.line c.args.body.items piece (take (length piece - 1) (drop 1 piece)) (get_or piece 0 0) c.requires
    (not_byte (get_or piece 0 0) LF c.if-byte-ne10.true)
    (drop_more piece 0 0 c.in-len1-up.len_at_least ∙ ap (λ u. get_or piece 0 0 ∷ u) (sym (take_rest piece 1))))

pub returns-else-byte-ne10 : goal.returns-else-byte-ne10
returns-else-byte-ne10 c =
    let piece = c.args.piece.now in
    rw c.stored.ensures
    (chunk_whole c.args.line c.args.body.items piece (take (length piece - 1) (drop 1 piece)) c.requires
    (drop_more piece 0 0 c.in-len1-up.len_at_least ∙ ap (λ b. b ∷ drop 1 piece) c.if-byte-ne10.false
    ∙ ap (λ u. LF ∷ u) (sym (take_rest piece 1))))
