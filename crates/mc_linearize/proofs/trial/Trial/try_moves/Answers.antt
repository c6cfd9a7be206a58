use Rattle.std.proofs.Common.{◌≡◌, ◌↔◌, ◌<◌, ◌+◌, ◌^◌, true, false, ap, [], ◌∷◌, IsTrue, get_or, drop, add-one, drop-cons, sym, subst, ◌∙◌}
use Rattle.std.proofs.{lemmas.List.drop_all, lemmas.List.take_all, lemmas.List.Elements.All-more, lemmas.Result.IfOk-weaker}
use Rattle.std.specs.List.{All}
use Rattle.mc_linearize.specs.{declared.explanation.TimelineMove.TimelineMove, Trials.Trial, Trials.Tries}
use Rattle.mc_history.specs.Distinct.{AreDistinct}
use Rattle.mc_timeline.specs.Queues.{MayEnd}
use Rattle.mc_linearize.proofs.trial.Trial.try_moves.Goals as goal

abbrev Fits : TimelineMove → Type 0
Fits move = move.number < 2 ^ 64

pub moves-preserved : goal.moves-preserved
moves-preserved c =
    let none : TimelineMove = record { client = 0; choice = record { pad = false; read = false }; number = 0 } in
    let moves = c.args.moves.now in
    let i = c.moves.by-index in
    let next : drop i moves ≡ get_or moves i none ∷ drop (i + 1) moves = rw add-one (drop-cons moves i none c.moves-test.true) in
    let step = c.in_ok-try_move.ensures.tries (drop (i + 1) moves) in
    let here = c.moves.invariant.tries in
    record {
      tries = (
        λ w. here.0 (subst (Tries c.moves.self) (sym next) (step.1 (c.if-not-branch.false, w))),
        λ w. (step.0 (subst (Tries c.moves.self) next (here.1 w))).1,
      );
      fit = All-more Fits c.args.moves.now c.moves.by-index none c.moves-test.true c.moves.invariant.fit c.try_move.ensures.fits;
    }

pub returns-then-not-branch : goal.returns-then-not-branch
returns-then-not-branch c =
    let none : TimelineMove = record { client = 0; choice = record { pad = false; read = false }; number = 0 } in
    let moves = c.args.moves.now in
    let i = c.moves.by-index in
    let next : drop i moves ≡ get_or moves i none ∷ drop (i + 1) moves = rw add-one (drop-cons moves i none c.moves-test.true) in
    let step = c.in_ok-try_move.ensures.tries (drop (i + 1) moves) in
    let here = c.moves.invariant.tries in (
      (λ t. absurd (cc)),
      (λ h.
          let made : c.in_ok-try_move.field-0 ≡ true = (step.0 (subst (Tries c.moves.self) next (here.1 h.0))).0 in
          absurd (cc)),
    )

pub returns-then-not-may_end : goal.returns-then-not-may_end
returns-then-not-may_end c =
    let moves = c.args.moves.now in
    let end : drop c.moves.by-index moves ≡ [] = drop_all c.moves.by-index moves c.moves-test.false in
    let left : c.self.inside.standing ≡ c.moves.self.left = ap (λ (t : Trial). t.left) c.self.view_is in
    let here = c.moves.invariant.tries in (
      (λ t. absurd (cc)),
      (λ h.
          let ended : c.may_end.result ≡ true = c.may_end.ensures.1 (subst MayEnd (sym left) (subst (Tries c.moves.self) end (here.1 h.0)).0) in
          absurd (cc)),
    )

pub returns : goal.returns
returns c =
    let moves = c.args.moves.now in
    let end : drop c.moves.by-index moves ≡ [] = drop_all c.moves.by-index moves c.moves-test.false in
    let left : c.self.inside.standing ≡ c.moves.self.left = ap (λ (t : Trial). t.left) c.self.view_is in
    let versions : c.as_slice.result.now ≡ c.moves.self.versions = c.as_slice.ensures.value ∙ ap (λ (t : Trial). t.versions) c.self.view_is in
    let ended : MayEnd c.moves.self.left = subst MayEnd left (c.may_end.ensures.0 c.if-not-may_end.false) in
    let here = c.moves.invariant.tries in
    let fit : All Fits moves = subst (All Fits) (take_all c.moves.by-index moves c.moves-test.false) c.moves.invariant.fit in
    IfOk-weaker c.are_distinct.result (λ yes. IsTrue yes ↔ AreDistinct c.as_slice.result.now)
    (λ yes. IsTrue yes ↔ (Tries c.args.self.now moves × All (λ (m : TimelineMove). m.number < 2 ^ 64) moves))
    (λ yes h. (
      (λ t. (here.0 (subst (Tries c.moves.self) (sym end) (ended, subst AreDistinct versions (h.0 t))), fit)),
      (λ e. h.1 (subst AreDistinct (sym versions) (subst (Tries c.moves.self) end (here.1 e.0)).1)),
    ))
    c.are_distinct.ensures
