use Rattle.std.proofs.Common.{◌∙◌, inl, inr, sym}
use Rattle.std.proofs.lemmas.Bool.{not-false, not-true}
use Rattle.mc_command.proofs.repeating.Runs.may_go_on.Goals as goal

pub returns-then-has_failed-clause-on : goal.returns-then-has_failed-clause-on
returns-then-has_failed-clause-on c is = (is, not-true _ (sym c.has_failed.ensures ∙ c.if-has_failed.true))

pub returns-then-has_failed-clause-over : goal.returns-then-has_failed-clause-over
returns-then-has_failed-clause-over c is = inl is

pub returns-else-has_failed-clause-over : goal.returns-else-has_failed-clause-over
returns-else-has_failed-clause-over c is = inr (not-false _ (sym c.has_failed.ensures ∙ c.if-has_failed.false))
