use Rattle.std.proofs.Common.{◌∙◌}
use Rattle.mc_run.proofs.Begins.{begin_is_taken}
use Rattle.mc_run.proofs.book.Book.begin.Goals as goal

pub returns-then-may_begin-clause-may : goal.returns-then-may_begin-clause-may
returns-then-may_begin-clause-may c = (
  λ taken. c.may_begin.ensures.0 c.if-may_begin.true,
  λ may. c.is_ok.ensures.value ∙ begin_is_taken _ _ _ c.args.call c.note.result c.note.ensures.refused may,
)
