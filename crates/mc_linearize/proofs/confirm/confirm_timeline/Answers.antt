use Rattle.std.proofs.Common.{◌↔◌, ◌≡◌, ◌<◌, ◌^◌, ℕ, List, IsTrue, map, subst, rules}
use Rattle.std.proofs.lemmas.Result.{IfOk-weaker}
use Rattle.std.specs.{List.All, Prelude.IfOk}
use Rattle.mc_history.specs.Distinct.{AreDistinct}
use Rattle.mc_timeline.proofs.TimelineOrder.{are_ordered}
use Rattle.mc_linearize.specs.{declared.explanation.TimelineMove.TimelineMove, Claims.ExplainsTimeline, Trials.Tries, Trials.trial_of}
use Rattle.mc_linearize.proofs.Trying.{explains_from_tries, tries_from_explains}
use Rattle.mc_linearize.proofs.confirm.confirm_timeline.Goals as goal

pub returns : goal.returns
returns c =
    let notes = c.args.timeline.now in
    let claim = c.args.explanation.now in
    let ordered = are_ordered notes c.notes.ensures.timeline in
    let start : c.as_slice.result.now ≡ claim.start = search rules in
    let keys = subst (λ l. AreDistinct (map (λ (k : List ℕ × ℕ). k.0) l)) start (c.in_ok-have_distinct_keys.ensures.0 c.if-not-branch.false) in
    let moves : c.as_slice-3.result.now ≡ claim.moves = search rules in
    let held : c.as_slice-2.result.now ≡ claim.start = search rules in
    let left = c.in_ok-trial.trial.left in
    let whole = rw c.notes.ensures.notes at c.in_ok-trial.ensures.whole in
    let trial : c.in_ok-trial.trial ≡ trial_of left claim.start = rw held at c.in_ok-trial.ensures.trial in
    let fit : All (λ (k : List ℕ × ℕ). k.1 < 2 ^ 64) claim.start = rw held at c.in_ok-trial.ensures.fit in
    IfOk-weaker c.try_moves.result
    (λ yes. IsTrue yes ↔ (Tries (trial_of left claim.start) claim.moves × All (λ (m : TimelineMove). m.number < 2 ^ 64) claim.moves))
    (λ yes. IsTrue yes ↔ ExplainsTimeline notes claim)
    (λ yes h. (
      λ t. let w = h.0 t in explains_from_tries notes claim left ordered whole keys fit w.1 w.0,
      λ e. h.1 (tries_from_explains notes claim left ordered whole e),
    ))
    (subst (λ t. IfOk c.try_moves.result (λ yes. IsTrue yes ↔ (Tries t claim.moves × All (λ (m : TimelineMove). m.number < 2 ^ 64) claim.moves))) trial
    (rw moves at c.try_moves.ensures))
