use Rattle.std.proofs.Common.{◌≡◌, ◌+◌, ◌<◌, ◌≤◌, ℕ, [], ◌∷◌, ◌++◌, List, length, take, map-id, sym, ap, ap₂, ◌∙◌, arith, length-append}
use Rattle.std.proofs.lemmas.Iterator.Consumers.{YieldsList-so_far, YieldsList-turn}
use Rattle.std.proofs.{lemmas.Iterator.Adapters.YieldsList-from_vec, lemmas.List.take_more}
use Rattle.mc_core.specs.Worlds.{Noted}
use Rattle.mc_answers.proofs.StepNotes.{none_made, one_more_made}
use Rattle.mc_answers.proofs.steps.take_steps.Goals.{then-notes-gt0+in_ok-push, else-notes-gt0}
use Rattle.mc_answers.proofs.steps.take_steps.Goals as goal

pub steps-preserved : goal.steps-preserved
steps-preserved c =
    let code = c.args.checked.now.code in
    let all = c.args.steps.items in
    let steps = c.steps.yielded in
    let noted : Noted = (c.in-Some.actor, c.in-Some.event) in
    let before = c.steps.invariant in
    let after = c.take_step-notes.ensures in
    let longer = length-append steps (noted ∷ []) in
    let few = before.few in
    let one_more = after.few in
    let fold = after.fold steps before.fold in
    let road = YieldsList-from_vec all (cc) (cc) in
    let turn = YieldsList-turn road steps c.steps.actor-iterator c.steps.yielded_by c.next.result c.next.new.self noted c.in-Some.is c.next.ensures.steps in
    let front : steps ≡ take (length steps) all = sym (map-id steps) ∙ YieldsList-so_far road steps c.steps.actor-iterator c.steps.yielded_by in
    let whole : steps ++ noted ∷ [] ≡ take (length steps + 1) all =
    ap₂ (λ (l : List Noted) (x : Noted). l ++ x ∷ []) front turn.1 ∙ sym (take_more all (length steps) noted turn.0) in
    let one = after.one in
    let adds = after.notes in
    record {
      held = after.held;
      small = after.small;
      fold = fold;
      few = omega (arith, few, one_more, longer);
      index = ap (λ n. n + 1) before.index ∙ sym longer;
      made = elim c.if-notes-gt0.branch [
        | then-notes-gt0+in_ok-push w ↦
            let some = w.if-notes-gt0.true in
            let last : c.take_step-notes.result ≡ 1 = omega (arith, one, some) in
            rw (w.makers-is, w.in_ok-push.ensures.items, before.index) (one_more_made code all steps noted c.steps.world.world
            c.take_step-notes.new.world.world c.steps.skipped c.take_step-notes.new.skipped c.steps.makers.items
            (sym front) (sym whole) before.fold fold (rw last at adds) before.made)
        | else-notes-gt0 w ↦
            let none = w.if-notes-gt0.false in
            rw w.makers-is (none_made code all c.steps.world.world c.take_step-notes.new.world.world c.steps.makers.items
            (omega (arith, adds, none)) before.made)
      ];
    }
