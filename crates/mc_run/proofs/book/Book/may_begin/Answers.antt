use Rattle.std.proofs.Common.{◌≡◌, ◌↔◌, true, subst}
use Rattle.mc_sound.specs.Checked.{Checked}
use Rattle.mc_core.specs.Steps.{MayBegin}
use Rattle.mc_run.specs.Books.{BookRecord}
use Rattle.mc_run.proofs.book.Book.may_begin.Goals as goal

pub returns : goal.returns
returns c =
    subst (λ (book : BookRecord). (c.is_that_call.result ≡ true) ↔ MayBegin book.checked.code book.world.world c.args.actor c.args.call) c.self.view_is (
    subst (λ (checked : Checked). (c.is_that_call.result ≡ true) ↔ MayBegin checked.code c.self.inside.world.world c.args.actor c.args.call)
    c.checked.ensures (
      λ same. (c.upcoming.ensures.call c.args.call).0 (c.is_that_call.ensures.0 same),
      λ may. c.is_that_call.ensures.1 ((c.upcoming.ensures.call c.args.call).1 may),
    )
    )
