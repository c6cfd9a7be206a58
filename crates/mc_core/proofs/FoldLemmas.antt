-- Folds: one for each list of events, and the same again for the notes that they leave.
use Rattle.std.proofs.Common.{◌≡◌, ◌⊎◌, inl, inr, ℕ, ◌+◌, List, [], ◌∷◌, ◌++◌, refl, ap, sym, subst, ◌∙◌, append-nil, append_assoc, arith}
use Rattle.mc_protocol.specs.{declared.actor.Actor.Actor, declared.event.Event.Event}
use Rattle.mc_protocol.specs.declared.actor.Actor.TheVariants as actor
use Rattle.mc_code.specs.Code.{Code}
use Rattle.mc_core.specs.declared.ending.Ending.TheVariants as ending
use Rattle.mc_core.specs.{declared.step_refusal.StepRefusal.StepRefusal, Laws.FoldsRepeat, Laws.FoldsOnce, Laws.EndsOnce, Steps.IsRefused, Steps.IsStep}
use Rattle.mc_core.specs.{Steps.IsFold, Steps.ends, Steps.steps, Steps.skips, Steps.IsWorldOf, Worlds.World, Worlds.Noted, Worlds.new_world}
use Rattle.mc_core.proofs.StepLemmas.{IsRight, step_right, step_grows, step_once, never_both}

-- ---- what holds along a fold

-- what each step keeps holds at the end
pub kept_along : (c : Code) (P : World → Type 0)
    → ((w : World) (who : Actor) (e : Event) (next : World) → P w → IsStep c w who e next → P next)
    → {w end : World} {events : List Noted} {skipped : ℕ} → IsFold c w events end skipped → P w → P end
kept_along c P keeps ends here = here
kept_along c P keeps (steps {w = w} {next = next} {who = who} {e = e} step fold) here =
    kept_along c P keeps fold (keeps w who e next here step)
kept_along c P keeps (skips r refused fold) here = kept_along c P keeps fold here

pub new_is_right : (c : Code) → IsRight c new_world
new_is_right c actor.P = inl refl
new_is_right c _ = inl refl

pub fold_right : (c : Code) {events : List Noted} {w : World} {skipped : ℕ} → IsFold c new_world events w skipped → IsRight c w
fold_right c fold = kept_along c (IsRight c) (λ w who e next right step. step_right c w who e next right step) fold (new_is_right c)

-- ---- one fold

-- how a fold begins
abbrev FoldBegins : Code → World → List Noted → World → ℕ → Type 0
FoldBegins c w [] end skipped = (end ≡ w) × (skipped ≡ 0)
FoldBegins c w ((who, e) ∷ events) end skipped =
    ((next : World) × IsStep c w who e next × IsFold c next events end skipped)
    ⊎ ((r : StepRefusal) × (others : ℕ) × IsRefused c w who e r × IsFold c w events end others × (skipped ≡ others + 1))

fold_begins : {c : Code} {w end : World} {events : List Noted} {skipped : ℕ} → IsFold c w events end skipped
    → FoldBegins c w events end skipped
fold_begins ends = (refl, refl)
fold_begins (steps {next = next} step fold) = inl (next, step, fold)
fold_begins (skips {skipped = others} r refused fold) = inr (r, others, refused, fold, refl)

-- the other fold has the same end, and skips as many
abbrev AsOther : World → ℕ → World → ℕ → Type 0
AsOther v skipped v' skipped' = (v ≡ v') × (skipped ≡ skipped')

one_more : {v v' : World} (m n skipped : ℕ) → skipped ≡ n + 1 → AsOther v m v' n → AsOther v (m + 1) v' skipped
one_more m n skipped more (same, as_many) = (same, omega (arith, more, as_many))

once : (c : Code) (v' : World) (skipped' : ℕ) → {w v : World} {events : List Noted} {skipped : ℕ} → IsFold c w events v skipped
    → FoldBegins c w events v' skipped' → AsOther v skipped v' skipped'
once c v' skipped' ends (same, none) = (sym same, sym none)
once c v' skipped' (steps {w = w} {next = next} {who = who} {e = e} {events = events} step fold) (inl (other, step', fold')) =
    let same = step_once c w who e other next step' step in
    once c v' skipped' fold (fold_begins (subst (λ next. IsFold c next events v' skipped') same fold'))
once c v' skipped' (steps {w = w} {next = next} {who = who} {e = e} step fold) (inr (r, others, refused, fold', more)) =
    absurd (never_both c w who e next step r refused)
once c v' skipped' (skips {w = w} {who = who} {e = e} r refused fold) (inl (other, step', fold')) =
    absurd (never_both c w who e other step' r refused)
once c v' skipped' (skips {skipped = n} r refused fold) (inr (r', others, refused', fold', more)) =
    one_more n others skipped' more (once c v' others fold (fold_begins fold'))

pub folds_once : FoldsOnce
folds_once c w v v' events skipped skipped' x y = once c v' skipped' x (fold_begins y)

-- ---- the fold of its notes

fold_append : {c : Code} {w mid end : World} {xs ys : List Noted} {skipped others : ℕ} → IsFold c w xs mid skipped
    → IsFold c mid ys end others
    → IsFold c w (xs ++ ys) end (skipped + others)
fold_append {c} {w} {mid} {end} {xs} {ys} {skipped} {others} ends more =
    let e : others ≡ 0 + others = omega arith in subst (λ n. IsFold c mid ys end n) e more
fold_append (steps step fold) more = steps step (fold_append fold more)
fold_append {c} {w} {mid} {end} {xs} {ys} {skipped} {others} (skips {skipped = n} r refused fold) more =
    let e : (n + others) + 1 ≡ (n + 1) + others = omega arith in
    subst (λ n. IsFold c w (xs ++ ys) end n) e (skips r refused (fold_append fold more))

-- one more event, which is taken
pub fold_step : (c : Code) (w mid next : World) (xs : List Noted) (who : Actor) (e : Event) (skipped : ℕ) → IsFold c w xs mid skipped
    → IsStep c mid who e next → IsFold c w (xs ++ (who, e) ∷ []) next skipped
fold_step c w mid next xs who e skipped fold step =
    let none : skipped + 0 ≡ skipped = omega arith in
    subst (IsFold c w (xs ++ (who, e) ∷ []) next) none (fold_append fold (steps step ends))

-- or refused
pub fold_skip : (c : Code) (w mid : World) (xs : List Noted) (who : Actor) (e : Event) (r : StepRefusal) (skipped : ℕ)
    → IsFold c w xs mid skipped
    → IsRefused c mid who e r → IsFold c w (xs ++ (who, e) ∷ []) mid (skipped + 1)
fold_skip c w mid xs who e r skipped fold refused = fold_append fold (skips r refused ends)

step_noted : (c : Code) (w : World) (who : Actor) (e : Event) (next : World) → IsStep c w who e next → next.notes ≡ w.notes ++ (who, e) ∷ []
step_noted c w who e next step = ap (λ (w : World). w.notes) (step_grows c w who e next step).new_is

pub repeats : (c : Code) (w : World) (who : Actor) (e : Event) (next : World) → IsWorldOf c w → IsStep c w who e next → IsWorldOf c next
repeats c w who e next fold step =
    subst (λ notes. IsFold c new_world notes next 0) (sym (step_noted c w who e next step)) (fold_append fold (steps step ends))

pub folds_repeat : FoldsRepeat
folds_repeat c events w skipped fold = kept_along c (IsWorldOf c) (repeats c) fold ends

-- where none is refused, all events are noted
pub all_noted : {c : Code} {w end : World} {events : List Noted} {skipped : ℕ} → IsFold c w events end skipped → skipped ≡ 0
    → end.notes ≡ w.notes ++ events
all_noted {w = w} ends none = sym (append-nil w.notes)
all_noted {c} (steps {w = w} {next = next} {who = who} {e = e} {events = events} step fold) none =
    all_noted fold none ∙ ap (λ l. l ++ events) (step_noted c w who e next step) ∙ append_assoc w.notes ((who, e) ∷ []) events
all_noted (skips {skipped = others} r refused fold) none = absurd (omega (arith, none))

-- ---- one ending

pub ends_once : EndsOnce
ends_once c w who ending.NotBegun ending.NotBegun x y = refl
ends_once c w who ending.NotBegun _ x y = absurd (x y.0)
ends_once c w who _ ending.NotBegun x y = absurd (y x.0)
ends_once c w who ending.Running ending.Running x y = refl
ends_once c w who ending.Running ending.Done x y = absurd (x.2 y.1)
ends_once c w who ending.Running (ending.Failed fault) x y = let e = sym x.1 ∙ y.1 in absurd (cc)
ends_once c w who ending.Done ending.Running x y = absurd (y.2 x.1)
ends_once c w who ending.Done ending.Done x y = refl
ends_once c w who ending.Done (ending.Failed fault) x y = let e = sym x.1.0 ∙ y.1 in absurd (cc)
ends_once c w who (ending.Failed fault) ending.Running x y = let e = sym x.1 ∙ y.1 in absurd (cc)
ends_once c w who (ending.Failed fault) ending.Done x y = let e = sym x.1 ∙ y.1.0 in absurd (cc)
ends_once c w who (ending.Failed fault) (ending.Failed other) x y = let e = sym x.1 ∙ y.1 in cc
