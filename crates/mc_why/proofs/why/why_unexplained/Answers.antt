use Rattle.std.proofs.Common.{subst}
use Rattle.mc_why.specs.{declared.locating.Located.Located, Locating.IsPlaceOf}
use Rattle.mc_why.proofs.why.why_unexplained.Goals as goal

pub answers_at-requires : goal.answers_at-requires
answers_at-requires c = (subst (λ (l : Located). IsPlaceOf c.args.history.now l) c.in-At.is c.in_ok-place.ensures).1

pub forms_at-requires : goal.forms_at-requires
forms_at-requires c = (subst (λ (l : Located). IsPlaceOf c.args.history.now l) c.in-At.is c.in_ok-place.ensures).1
