use Rattle.std.proofs.Common.{◌≡◌, ◌-◌, length, ap, rules}
use Rattle.std.proofs.lemmas.Result.{err_from_is_err_and}
use Rattle.mc_reader.proofs.Gathers.{gathers_fault}
use Rattle.mc_reader.proofs.gather.gather.Goals as goal

pub returns-in_err-line_end : goal.returns-in_err-line_end
returns-in_err-line_end c =
    let p = err_from_is_err_and c.from_residual.result c.from_residual.ensures.1 in
    let len : c.len.result ≡ length c.args.start.now.items = search rules in
    rw (p.1, p.2) (gathers_fault c.args.start.now.items c.args.piece.now (2048 - c.len.result) c.in_err-line_end.field-0.0 c.requires
    (ap (λ n. 2048 - n) len) c.in_err-line_end.ensures)
