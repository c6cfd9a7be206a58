-- Under which keys the next run is played.
use Rattle.std.proofs.Common.{◌≡◌, ◌⊎◌, ◌∙◌, Bool, true, false, Option, Some, None, IfSome, ap, inl, inr, subst, sym}
use Rattle.std.proofs.lemmas.Bool.{false≢true}
use Rattle.std.specs.{Arc.arc_value, declared.alloc.Global.Global, declared.sync.Arc.Arc}
use Rattle.mc_code.specs.Code.{Code}
use Rattle.mc_sound.specs.Checked.{Checked}
use Rattle.mc_command.specs.{Renaming.code_of, RepeatAnswers.IsRightUnder, RepeatAnswers.IsUnderSome, RunAnswers.IsRightFor, declared.run.Played.Played}

pub none_under : (written : Code) (under : Option (Arc Checked Global)) → under ≡ None
    → IfSome under (λ (u : Arc Checked Global). IsUnderSome written (arc_value u).code)
none_under written under is =
    subst (λ (o : Option (Arc Checked Global)). IfSome o (λ (u : Arc Checked Global). IsUnderSome written (arc_value u).code))
    (sym is) tt

pub right_under : (why : Bool) (written : Code) (under : Option (Arc Checked Global)) (code : Code) (run : Played) → code ≡ code_of under written
    → IfSome under (λ (u : Arc Checked Global). IsUnderSome written (arc_value u).code) → IsRightFor why code run → IsRightUnder why written run
right_under why written None code run is some right = inl (subst (λ c. IsRightFor why c run) is right)
right_under why written (Some u) code run is some right = inr ((arc_value u).code, some, subst (λ c. IsRightFor why c run) is right)

pub own_right : (why : Bool) (written : Code) (under : Option (Arc Checked Global)) (code : Code) (run : Played) → under ≡ None
    → code ≡ code_of under written → IsRightFor why code run → IsRightFor why written run
own_right why written under code run none is right =
    subst (λ c. IsRightFor why c run) (is ∙ ap (λ (o : Option (Arc Checked Global)). code_of o written) none) right

pub none_settled : (new old : Option (Arc Checked Global)) (unsettled : Bool) → (new ≡ old) ⊎ (unsettled ≡ true) → old ≡ None → unsettled ≡ false
    → new ≡ None
none_settled new old unsettled (inl same) none settled = same ∙ none
none_settled new old unsettled (inr is) none settled = absurd (false≢true (sym settled ∙ is))
