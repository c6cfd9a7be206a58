use Rattle.std.proofs.Common.{◌≡◌, ◌↔◌, ℕ, ◌+◌, ◌<◌, Bool, true, false, not, List, ◌∷◌, length, get_or, drop, drop-cons, add-one, refl, ap, sym, subst, ◌∙◌}
use Rattle.mc_code.specs.Code.{instructions_in}
use Rattle.mc_counterexample.specs.{KindReplays.state_of, KindReplays.section_in, KindReplays.FailsFrom, Replays.is_branch}
use Rattle.mc_counterexample.proofs.{KindSlides.fails_from_first, KindBegins.through}
use Rattle.mc_sound.proofs.Structured.{structured_some}
use Rattle.mc_counterexample.proofs.kind_replay.shows_fail.Goals as goal

unless : (b : Bool) → not b ≡ false → b ≡ true
unless true e = refl
unless false e = absurd (cc)

drop_more : {A : Type 0} (xs : List A) (i : ℕ) (d : A) → i < length xs → drop i xs ≡ get_or xs i d ∷ drop (i + 1) xs
drop_more xs i d below = drop-cons xs i d below ∙ ap (λ n. get_or xs i d ∷ drop n xs) (sym (add-one i))

pub replies-init : goal.replies-init
replies-init c =
    let code = c.args.code.now in
    let first = c.first-replay.result in
    let section = section_in first.begun c.args.actor in
    record {
      inside = subst (λ place. place < length (instructions_in code section)) (sym c.first-replay.ensures.place)
          (structured_some code section (c.requires section));
      branch = λ isnt. unless (is_branch c.args.actor) (sym c.first-replay.ensures.begun ∙ isnt);
      left = fails_from_first code c.args.kind c.args.actor c.args.place c.args.shown.now first.begun first.place (state_of code first.known)
          c.first-replay.ensures.begun c.first-replay.ensures.place (c.first-replay.ensures.known code c.templates.ensures.kept.vars);
    }

pub replies-preserved : goal.replies-preserved
replies-preserved c =
    let shown = c.args.shown.now in
    let index = c.replies.reply-index in
    let step = c.in-Some.ensures.some c.args.kind c.args.place (drop (index + 1) shown) in
    record {
      inside = c.in-Some.ensures.inside;
      branch = c.in-Some.ensures.branch;
      left = through c.replies.invariant.left
          (subst (λ rest. FailsFrom c.args.code.now c.args.kind c.args.actor c.args.place c.replies.replay rest
          ↔ FailsFrom c.args.code.now c.args.kind c.args.actor c.args.place c.in-Some.next (drop (index + 1) shown))
          (sym (drop_more shown index _ c.replies-test.true)) step);
    }
