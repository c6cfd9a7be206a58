use Rattle.std.proofs.Common.{◌≡◌, ◌↔◌, true, sym, subst}
use Rattle.mc_verify.specs.Shown.{IsShownBy}
use Rattle.mc_sound.specs.declared.refusal_kind.RefusalKind.{RefusalKind}
use Rattle.mc_counterexample.proofs.{KindSlides.shown_unbound, KindSlides.shown_wrong_kind, KindSlides.shown_nothing, KindBegins.through}
use Rattle.mc_counterexample.proofs.shown.shows.Goals as goal

pub returns-in-Unbound : goal.returns-in-Unbound
returns-in-Unbound c =
    let inside = c.refusal.inside in
    let shown = c.as_slice-shown.result.now in
    rw (← c.refusal.view_is, ← c.as_slice-shown.ensures.value) (
    subst (λ (kind : RefusalKind). (c.shows_fail.result ≡ true) ↔ IsShownBy c.args.code.now kind inside.actor inside.place shown)
    (sym c.in-Unbound.is) (through c.shows_fail.ensures (shown_unbound c.args.code.now inside.actor inside.place shown))
    )

pub returns-in-WrongKind : goal.returns-in-WrongKind
returns-in-WrongKind c =
    let inside = c.refusal.inside in
    let shown = c.as_slice-shown.result.now in
    rw (← c.refusal.view_is, ← c.as_slice-shown.ensures.value) (
    subst (λ (kind : RefusalKind). (c.shows_fail-in-WrongKind.result ≡ true) ↔ IsShownBy c.args.code.now kind inside.actor inside.place shown)
    (sym c.in-WrongKind.is) (through c.shows_fail-in-WrongKind.ensures (shown_wrong_kind c.args.code.now inside.actor inside.place shown))
    )

pub returns-in-NothingToBind : goal.returns-in-NothingToBind
returns-in-NothingToBind c =
    let inside = c.refusal.inside in
    let shown = c.as_slice-shown.result.now in
    rw (← c.refusal.view_is, ← c.as_slice-shown.ensures.value) (
    subst (λ (kind : RefusalKind). (c.shows_fail-in-NothingToBind.result ≡ true) ↔ IsShownBy c.args.code.now kind inside.actor inside.place shown)
    (sym c.in-NothingToBind.is) (through c.shows_fail-in-NothingToBind.ensures (shown_nothing c.args.code.now inside.actor inside.place shown))
    )
