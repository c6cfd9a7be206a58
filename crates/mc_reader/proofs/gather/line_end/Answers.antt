use Rattle.std.proofs.Common.{◌≡◌, false, take, subst, arith}
use Rattle.std.proofs.lemmas.List.{take_all}
use Rattle.mc_reader.specs.Lines.{has_end}
use Rattle.mc_reader.proofs.Searches.{end_found, none_found}
use Rattle.mc_reader.proofs.gather.line_end.Goals as goal

pub returns-in-Some : goal.returns-in-Some
returns-in-Some c =
    let h = end_found c.min.result c.args.piece.now c.in-Some.at c.in-Some.ensures in
    let low = h.0 in
    (omega arith, h.1)

pub returns-in-None : goal.returns-in-None
returns-in-None c = (
  c.if-piece-room.true,
  subst (λ u. has_end u ≡ false) (take_all c.min.result c.args.piece.now (omega arith))
      (none_found (take c.min.result c.args.piece.now) c.in-None.ensures),
)

pub returns-in-None-2 : goal.returns-in-None-2
returns-in-None-2 c =
    let full : c.min.result ≡ c.args.room = omega arith in (
      c.if-piece-room.false,
      subst (λ n. has_end (take n c.args.piece.now) ≡ false) full
          (none_found (take c.min.result c.args.piece.now) c.in-None-2.ensures),
    )
