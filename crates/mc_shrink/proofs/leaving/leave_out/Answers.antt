use Rattle.std.proofs.Common.{arith, subst, sym}
use Rattle.mc_shrink.specs.Going.{IsLeft}
use Rattle.mc_shrink.proofs.Remaining.{is_part, nothing_left_out}
use Rattle.mc_shrink.proofs.leaving.leave_out.Goals as goal

pub places-init : goal.places-init
places-init c =
    let whole = c.args.whole.now in
    let part = c.args.part in
    record {
      left = subst (λ goes. IsLeft whole goes part) (sym c.new.ensures.items) (nothing_left_out whole part c.requires.timeline c.requires.same);
      end = omega arith;
      size = λ some. some;
    }

pub returns-clause-part : goal.returns-clause-part
returns-clause-part c =
    is_part c.args.whole.now c.places.left.goes.items c.places.left.part c.places.invariant.left
