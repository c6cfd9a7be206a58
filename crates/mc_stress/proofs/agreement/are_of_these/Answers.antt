use Rattle.std.proofs.Common.{sym, subst, ◌∙◌}
use Rattle.std.proofs.{lemmas.List.take_all, lemmas.List.Elements.All-more}
use Rattle.std.specs.List.{All}
use Rattle.mc_stress.specs.Agreement.{IsOfOne}
use Rattle.mc_stress.proofs.agreement.are_of_these.Goals as goal

pub notes-preserved : goal.notes-preserved
notes-preserved g c =
    let noted = c.notes-item.result in
    let here : IsOfOne c.args.played.now noted = sym c.is_one.ensures ∙ c.if-not-is_one.false in
    All-more (IsOfOne c.args.played.now) c.args.notes.now c.notes.client-index noted c.notes-test.true c.notes.invariant
    (subst (IsOfOne c.args.played.now) c.notes-item.is here)

pub returns : goal.returns
returns g c = λ _. subst (All (IsOfOne c.args.played.now)) (take_all c.notes.client-index c.args.notes.now c.notes-test.false) c.notes.invariant
