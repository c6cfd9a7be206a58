use Rattle.std.proofs.Common.{◌+◌, ◌++◌, ◌∙◌, ap, drop}
use Rattle.mc_shrink.specs.Going.{may_go_from}
use Rattle.mc_shrink.proofs.Telling.{one_more}
use Rattle.mc_shrink.proofs.going.may_go.Goals as goal

pub notes-preserved : goal.notes-preserved
notes-preserved c =
    let notes = c.args.notes.now in
    let place = c.notes.place in
    ap (λ l. l ++ may_go_from (place + 1) (drop (place + 1) notes)) c.in_ok-push.ensures.items
    ∙ one_more c.notes.may.items place notes (may_go_from 0 notes) c.may_go_at.result c.notes-test.true c.may_go_at.ensures c.notes.invariant
