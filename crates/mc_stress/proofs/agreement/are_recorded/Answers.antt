use Rattle.std.proofs.Common.{◌≡◌, subst, ◌∙◌, List}
use Rattle.std.proofs.{lemmas.List.take_all, lemmas.List.Elements.All-more}
use Rattle.std.specs.List.{All}
use Rattle.mc_model.specs.declared.sent.Sent.{Sent}
use Rattle.mc_recorded.specs.Recorded.{IsRecordedBy}
use Rattle.mc_stress.specs.Agreement.{IsOver, IsRecorded, sent_by}
use Rattle.mc_stress.proofs.agreement.are_recorded.Goals as goal

pub clients-preserved : goal.clients-preserved
clients-preserved g c =
    let one = c.one-item.result in
    let notes = c.args.notes.now in
    let first : c.as_slice.result.now ≡ sent_by one.client notes = c.as_slice.ensures.value ∙ c.in_ok-sent.ensures in
    let second : c.as_slice-in-clients.result.now ≡ sent_by one.client notes = c.as_slice-in-clients.ensures.value ∙ c.in_ok-sent.ensures in
    let here : IsRecorded notes one = (
      subst (λ (xs : List Sent). IsRecordedBy xs one.ended one.lane) second (c.in_ok-is_recorded.ensures.0 c.if-not-branch.false),
      subst (λ (xs : List Sent). IsOver xs one.ended) first (c.is_over.ensures c.if-not-is_over.false),
    ) in
    All-more (IsRecorded notes) c.args.played.now c.clients.one-index one c.clients-test.true c.clients.invariant
    (subst (IsRecorded notes) c.one-item.is here)

pub returns : goal.returns
returns g c = λ _. subst (All (IsRecorded c.args.notes.now)) (take_all c.clients.one-index c.args.played.now c.clients-test.false) c.clients.invariant
