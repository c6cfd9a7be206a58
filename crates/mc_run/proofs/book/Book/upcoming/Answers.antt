use Rattle.std.proofs.Common.{subst}
use Rattle.mc_sound.specs.Checked.{Checked}
use Rattle.mc_core.specs.Steps.{MayBegin}
use Rattle.mc_run.specs.Books.{BookRecord}
use Rattle.mc_run.proofs.book.Book.upcoming.Goals as goal

pub returns-clause-call : goal.returns-clause-call
returns-clause-call c =
    subst (λ (book : BookRecord). MayBegin book.checked.code book.world.world c.args.actor c.in_ok-call.call) c.self.view_is
    (subst (λ (checked : Checked). MayBegin checked.code c.self.inside.world.world c.args.actor c.in_ok-call.call) c.checked.ensures
    ((c.upcoming.ensures.call c.in_ok-call.call).0 c.in_ok-call.was))
