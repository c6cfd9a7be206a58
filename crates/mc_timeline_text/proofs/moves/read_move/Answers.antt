use Rattle.std.proofs.{Common.decimal, lemmas.Result.err_from_is_err_and}
use Rattle.mc_timeline_text.proofs.moves.read_move.Goals as goal

pub returns-in_err-number-clause-none : goal.returns-in_err-number-clause-none
returns-in_err-number-clause-none c =
    let p = err_from_is_err_and c.from_residual-in_err-number.result c.from_residual-in_err-number.ensures.1 in
    rw (p.1, p.2) (λ real move spelled.
    c.in_err-number.ensures.none real (move.number, move.choice) (decimal move.client, spelled.0, spelled.1, spelled.2))
