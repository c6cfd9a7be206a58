-- All steps are some of the steps, and less a step of less of a script is less of the script.
use Rattle.std.proofs.Common.{◌≡◌, ℕ, ◌+◌, ◌<◌, ◌≤◌, zero, suc, Bool, true, false, List, [], ◌∷◌, map, length, take}
use Rattle.std.proofs.Common.{refl, sym, ap, subst, ◌∙◌, arith, inl, inr, ⊎_elim}
use Rattle.std.proofs.{lemmas.Bool.lt-ltb, lemmas.Bool.le-ltb, lemmas.Bool.cases_lt, lemmas.List.Edits.length-remove}
use Rattle.std.specs.List.{remove}
use Rattle.mc_protocol.specs.{declared.actor.Actor.Actor, Lines.Word, declared.sections.Sections.Sections}
use Rattle.mc_protocol.specs.declared.actor.Actor.TheVariants as actor
use Rattle.mc_protocol.specs.Sections as of
use Rattle.mc_script.specs.WellFormed.{AreLabels, IsSection, IsScript}
use Rattle.mc_script.specs.WithoutStep.{place_without, label_without, section_without, without_step}
use Rattle.mc_script.specs.{declared.section.Label.Label, declared.step.Step.Step, Script.Names, Script.Section, Script.Script, Script.section_of}
use Rattle.mc_generate.specs.Shrinking.{HasSteps, with_count}
use Rattle.mc_generate.specs.Shrunk.{steps_left, label_left, IsLessSection, IsLess, IsAccepted, IsShrunk}

abbrev named : Word → ℕ → Label
named name place = record { name = name; place = place }

-- ---- all steps

abbrev all : List Step → List Bool
all [] = []
all (s ∷ steps) = true ∷ all steps

all-left : (steps : List Step) → steps_left (all steps) steps ≡ steps
all-left [] = refl
all-left (s ∷ steps) = ap (λ ls. s ∷ ls) (all-left steps)

all-before : (place : ℕ) (steps : List Step) → place ≤ length steps → length (steps_left (all steps) (take place steps)) ≡ place
all-before zero [] h = refl
all-before (suc place) [] h = absurd (omega (arith, h))
all-before zero (s ∷ steps) h = refl
all-before (suc place) (s ∷ steps) h =
    let rest = all-before place steps (omega (arith, h)) in omega (arith, rest)

labels-same : (steps : List Step) (least : ℕ) (labels : List Label) → AreLabels (length steps) least labels → map (label_left (all steps) steps) labels ≡ labels
labels-same steps least [] h = refl
labels-same steps least (label ∷ labels) h =
    let rest = labels-same steps label.place labels h.3 in
    let here : label_left (all steps) steps label ≡ label = ap (named label.name) (all-before label.place steps h.2) in
    cc (here, rest)

section-same : (names : Names) (s : Section) → IsSection names s → IsLessSection s s
section-same names s h = record {
  kept = all s.steps;
  budget = refl;
  steps = sym (all-left s.steps);
  labels = sym (labels-same s.steps 0 s.labels h.labels);
}

each : (s t : Script) → IsLessSection s.sections.p t.sections.p → IsLessSection s.sections.a t.sections.a → IsLessSection s.sections.b t.sections.b
    → (section : Actor) → IsLessSection (section_of s section) (section_of t section)
each s t p a b actor.P = p
each s t p a b actor.A = a
each s t p a b actor.B = b

pub shrunk-same : (s : Script) → IsScript s → IsShrunk s s
shrunk-same s h = (
  record {
    names = refl;
    sections = each s s (section-same s.names s.sections.p h.p) (section-same s.names s.sections.a h.a) (section-same s.names s.sections.b h.b);
  },
  inl refl,
)

-- ---- a step less

-- the marks of those that are left without the k-th of them
abbrev dropped : ℕ → List Bool → List Bool
dropped k [] = []
dropped k (false ∷ kept) = false ∷ dropped k kept
dropped zero (true ∷ kept) = false ∷ kept
dropped (suc k) (true ∷ kept) = true ∷ dropped k kept

none-removed : {X : Type 0} (k : ℕ) → ◌≡◌ {A = List X} (remove [] k) []
none-removed zero = refl
none-removed (suc k) = refl

dropped-nil : (k : ℕ) (kept : List Bool) → steps_left (dropped k kept) [] ≡ []
dropped-nil k [] = refl
dropped-nil k (false ∷ kept) = refl
dropped-nil zero (true ∷ kept) = refl
dropped-nil (suc k) (true ∷ kept) = refl

dropped-left : (k : ℕ) (kept : List Bool) (steps : List Step) → remove (steps_left kept steps) k ≡ steps_left (dropped k kept) steps
dropped-left k [] steps = none-removed k
dropped-left k (b ∷ kept) [] = none-removed k ∙ sym (dropped-nil k (b ∷ kept))
dropped-left k (false ∷ kept) (s ∷ steps) = dropped-left k kept steps
dropped-left zero (true ∷ kept) (s ∷ steps) = refl
dropped-left (suc k) (true ∷ kept) (s ∷ steps) = ap (λ ls. s ∷ ls) (dropped-left k kept steps)

none-before : (k : ℕ) → place_without k 0 ≡ 0
none-before k = rw (le-ltb k 0 (omega arith)) refl

one-more : (k place : ℕ) → place_without (suc k) (suc place) ≡ suc (place_without k place)
one-more k place =
    ⊎_elim
    (λ lt. rw (lt-ltb k place lt, lt-ltb (suc k) (suc place) (omega (arith, lt))) (omega (arith, lt)))
    (λ le. rw (le-ltb k place le, le-ltb (suc k) (suc place) (omega (arith, le))) refl)
    (cases_lt k place)

-- where a label stands that has these steps before it
dropped-before : (k : ℕ) (kept : List Bool) (before : List Step)
    → place_without k (length (steps_left kept before)) ≡ length (steps_left (dropped k kept) before)
dropped-before k [] before = none-before k
dropped-before k (b ∷ kept) [] = none-before k ∙ ap length (sym (dropped-nil k (b ∷ kept)))
dropped-before k (false ∷ kept) (s ∷ before) = dropped-before k kept before
dropped-before zero (true ∷ kept) (s ∷ before) =
    let n = length (steps_left kept before) in
    rw (lt-ltb 0 (suc n) (omega arith)) (omega arith)
dropped-before (suc k) (true ∷ kept) (s ∷ before) = one-more k (length (steps_left kept before)) ∙ ap suc (dropped-before k kept before)

label-dropped : (k : ℕ) (kept : List Bool) (steps : List Step) (label : Label)
    → label_without k (label_left kept steps label) ≡ label_left (dropped k kept) steps label
label-dropped k kept steps label =
    ap (named label.name) (dropped-before k kept (take label.place steps))

labels-dropped : (k : ℕ) (kept : List Bool) (steps : List Step) (labels : List Label)
    → map (label_without k) (map (label_left kept steps) labels) ≡ map (label_left (dropped k kept) steps) labels
labels-dropped k kept steps [] = refl
labels-dropped k kept steps (label ∷ labels) =
    let rest = labels-dropped k kept steps labels in
    let here = label-dropped k kept steps label in
    cc (here, rest)

section-dropped : (s t : Section) (k : ℕ) → IsLessSection s t → IsLessSection s (section_without k t)
section-dropped s t k h = record {
  kept = dropped k h.kept;
  budget = h.budget;
  steps = ap (λ (ls : List Step). remove ls k) h.steps ∙ dropped-left k h.kept s.steps;
  labels = ap (map (label_without k)) h.labels ∙ labels-dropped k h.kept s.steps s.labels;
}

less-a-step : (s t : Script) (section : Actor) (k : ℕ) → IsLess s t → IsLess s (without_step t section k)
less-a-step s t actor.P k h = record {
  names = h.names;
  sections = each s (without_step t actor.P k) (section-dropped s.sections.p t.sections.p k (h.sections actor.P)) (h.sections actor.A) (h.sections actor.B);
}
less-a-step s t actor.A k h = record {
  names = h.names;
  sections = each s (without_step t actor.A k) (h.sections actor.P) (section-dropped s.sections.a t.sections.a k (h.sections actor.A)) (h.sections actor.B);
}
less-a-step s t actor.B k h = record {
  names = h.names;
  sections = each s (without_step t actor.B k) (h.sections actor.P) (h.sections actor.A) (section-dropped s.sections.b t.sections.b k (h.sections actor.B));
}

pub shrunk-more : (first s less : Script) (section : Actor) (k : ℕ) → less ≡ without_step s section k → IsAccepted less → IsShrunk first s
    → IsShrunk first less
shrunk-more first s less section k e accepted h = (subst (IsLess first) (sym e) (less-a-step first s section k h.0), inr accepted)

-- ---- how far a script is shrunk

-- the script has the steps before it
pub steps-before : (left : Sections ℕ) (s : Script) (section : Actor) (k : ℕ) → HasSteps left s → of.section_of left section ≡ k + 1
    → HasSteps (with_count section k left) s
steps-before left s actor.P k h e = let few = h.p in record { p = omega (arith, few, e); a = h.a; b = h.b }
steps-before left s actor.A k h e = let few = h.a in record { p = h.p; a = omega (arith, few, e); b = h.b }
steps-before left s actor.B k h e = let few = h.b in record { p = h.p; a = h.a; b = omega (arith, few, e) }

-- and so has the script without it
fewer : (left : Sections ℕ) (s : Script) (section : Actor) (k : ℕ) → HasSteps left s → of.section_of left section ≡ k + 1
    → HasSteps (with_count section k left) (without_step s section k)
fewer left s actor.P k h e =
    let few = h.p in
    let n = length-remove s.sections.p.steps k (omega (arith, few, e)) in record { p = omega (arith, few, e, n); a = h.a; b = h.b }
fewer left s actor.A k h e =
    let few = h.a in
    let n = length-remove s.sections.a.steps k (omega (arith, few, e)) in record { p = h.p; a = omega (arith, few, e, n); b = h.b }
fewer left s actor.B k h e =
    let few = h.b in
    let n = length-remove s.sections.b.steps k (omega (arith, few, e)) in record { p = h.p; a = h.a; b = omega (arith, few, e, n) }

pub steps-fewer : (left now : Sections ℕ) (s less : Script) (section : Actor) (k : ℕ) → HasSteps left s → of.section_of left section ≡ k + 1
    → now ≡ with_count section k left → less ≡ without_step s section k → HasSteps now less
steps-fewer left now s less section k h e is e-less = rw (is, e-less) (fewer left s section k h e)

-- how many steps are left
abbrev pub sum_left : Sections ℕ → ℕ
sum_left left = left.p + left.a + left.b
