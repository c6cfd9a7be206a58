use Rattle.std.proofs.Common.{◌≡◌, sym, subst}
use Rattle.mc_generate.proofs.Less.{shrunk-more, steps-before, steps-fewer}
use Rattle.mc_generate.specs.{Shrinking.HasSteps, Shrunk.IsShrunk}
use Rattle.mc_generate.proofs.shrinker.Shrinker.next.Goals as goal

pub invariant_of-self-in-Some-2 : goal.invariant_of-self-in-Some-2
invariant_of-self-in-Some-2 c =
    let taken = c.in-Some.ensures.taken in
    let left = c.steps.self.left in
    let script = c.steps.self.script in
    record {
      enough = subst (λ l. HasSteps l script) (sym taken.1) (steps-before left script c.in-Some.actor c.in-Some.step c.steps.self.enough taken.0);
      others = λ less e.
          let same : c.in_ok-less.less ≡ less = cc e in
          subst (HasSteps c.take_last.new.left) same
          (steps-fewer left c.take_last.new.left script c.in_ok-less.less c.in-Some.actor c.in-Some.step c.steps.self.enough taken.0 taken.1
          c.in_ok-less.ensures);
    }

pub returns-in-Some-2-clause-shrinking : goal.returns-in-Some-2-clause-shrinking
returns-in-Some-2-clause-shrinking c first h =
    let script = c.steps.self.script in
    let less = c.in_ok-less.less in
    let was : IsShrunk first script = subst (IsShrunk first) (sym c.steps.invariant.script) h.0 in
    let accepted = rw c.in-Some-2.is at c.in_ok-checked.ensures.accepted in
    let smaller = shrunk-more first script less c.in-Some.actor c.in-Some.step c.in_ok-less.ensures accepted was in (
      was,
      λ tried e.
          let same : less ≡ tried = cc e in
          subst (IsShrunk first) same smaller,
    )

pub invariant_of-self-in_default : goal.invariant_of-self-in_default
invariant_of-self-in_default c =
    let same = sym c.in_default.ensures.none in
    record {
      enough = subst (λ l. HasSteps l c.steps.self.script) same c.steps.self.enough;
      others = λ less e. subst (λ l. HasSteps l less) same (c.steps.self.others less e);
    }
