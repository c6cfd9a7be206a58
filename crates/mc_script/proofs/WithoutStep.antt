-- A script less a step is a script.
use Rattle.std.proofs.Common.{◌≡◌, ℕ, ◌+◌, ◌<◌, ◌≤◌, zero, suc, Some, List, [], ◌∷◌, length, map, slice_get, refl, ap, subst, ◌∙◌, arith, ◌==◌, nat_lt}
use Rattle.std.proofs.Common.{nat_le, cond, ◌++◌, codes, sym, append_assoc, length-append}
use Rattle.std.proofs.{lemmas.Bool.Decides.nat_tests, lemmas.List.Edits.length-remove, lemmas.Bool.le-ltb, lemmas.Bool.ne_eqb, lemmas.List.Sums.sum_by-cons}
use Rattle.std.specs.List.{remove, count_by}
use Rattle.mc_script.specs.Values.{Actor, Verb, Class, Sections, Label, Step, Word, Words}
use Rattle.mc_script.specs.WellFormed.{IsAfter, AreJumps, IsStep, AreSteps, AreLabels, IsSection, IsScript}
use Rattle.mc_script.specs.WithoutStep.{place_without, label_without, section_without, sections_without, without_step}
use Rattle.mc_script.specs.{Script.Names, Script.Section, Script.Script, Script.section_of, WellFormed.label_names}
use Rattle.mc_script.specs.Values.actor
use Rattle.mc_script.specs.Values.step
use Rattle.mc_protocol.specs.{Names.are_distinct, Words.class_index, Words.verb_word}

-- ---- labels

stays-ordered : (k a b : ℕ) → a ≤ b → place_without k a ≤ place_without k b
stays-ordered k a b h = grind (arith, nat_tests)

labels-stay : (k least steps : ℕ) (labels : List Label) → AreLabels steps least labels
    → AreLabels (place_without k steps) (place_without k least) (map (label_without k) labels)
labels-stay k least steps [] h = tt
labels-stay k least steps (label ∷ labels) h =
    (h.0, stays-ordered k least label.place h.1, stays-ordered k label.place steps h.2, labels-stay k label.place steps labels h.3)

pub names-stay : (k : ℕ) (labels : List Label) → label_names (map (label_without k) labels) ≡ label_names labels
names-stay k [] = refl
names-stay k (label ∷ labels) = ap (λ names. label.name ∷ names) (names-stay k labels)

moved-label : (k : ℕ) (labels : List Label) (index : ℕ) (label : Label) → slice_get labels index ≡ Some label
    → slice_get (map (label_without k) labels) index ≡ Some (label_without k label)
moved-label k [] index label h = absurd (cc)
moved-label k (first ∷ labels) zero label h = let same : first ≡ label = cc in ap (λ l. Some (label_without k l)) same
moved-label k (first ∷ labels) (suc index) label h = moved-label k labels index label h

-- ---- jumps

-- a label behind a step is behind it without an earlier or a later step: it falls by one place only where it stood behind
-- that step too, and then it stood at least two places behind an earlier one, or a later one falls with it
behind-earlier : (k place : ℕ) (labels : List Label) → place < k → (index : ℕ) → IsAfter labels place index
    → IsAfter (map (label_without k) labels) place index
behind-earlier k place labels below index (label, found, behind) =
    (label_without k label, moved-label k labels index label found, less k place label.place below behind)
  where
    less : (k place at : ℕ) → place < k → place < at → place < place_without k at
    less k place at below behind = grind (arith, nat_tests)

behind-later : (k place : ℕ) (labels : List Label) → k ≤ place → (index : ℕ) → IsAfter labels (place + 1) index
    → IsAfter (map (label_without k) labels) place index
behind-later k place labels from index (label, found, behind) =
    (label_without k label, moved-label k labels index label found, less k place label.place from behind)
  where
    less : (k place at : ℕ) → k ≤ place → place + 1 < at → place < place_without k at
    less k place at from behind = grind (arith, nat_tests)

-- ---- steps

jumps-stay : (verb : Verb) (labels others : List Label) (place at least : ℕ) (jumps : List (Class × ℕ))
    → ((index : ℕ) → IsAfter labels place index → IsAfter others at index)
    → AreJumps verb labels place least jumps → AreJumps verb others at least jumps
jumps-stay verb labels others place at least [] f h = tt
jumps-stay verb labels others place at least (jump ∷ jumps) f h =
    (h.0, h.1, f jump.1 h.2, jumps-stay verb labels others place at (class_index jump.0 + 1) jumps f h.3)

step-stays : (names : Names) (labels others : List Label) (place at : ℕ) (s : Step)
    → ((index : ℕ) → IsAfter labels place index → IsAfter others at index) → IsStep names labels place s → IsStep names others at s
step-stays names labels others place at (step.Send t jumps bind) f h = (h.0, jumps-stay t.verb labels others place at 0 jumps f h.1, h.2)
step-stays names labels others place at (step.Bind v) f h = h
step-stays names labels others place at (step.Goto label) f h = f label h
step-stays names labels others place at step.Halt f h = tt

later-stay : (names : Names) (labels : List Label) (k place : ℕ) (steps : List Step) → k ≤ place → AreSteps names labels (place + 1) steps
    → AreSteps names (map (label_without k) labels) place steps
later-stay names labels k place [] from h = tt
later-stay names labels k place (s ∷ steps) from h = (
  step-stays names labels (map (label_without k) labels) (place + 1) place s (behind-later k place labels from) h.0,
  later-stay names labels k (place + 1) steps (omega (arith, from)) h.1,
)

-- the step to leave out stands i places further on
steps-stay : (names : Names) (labels : List Label) (k place i : ℕ) (steps : List Step) → place + i ≡ k → i < length steps
    → AreSteps names labels place steps → AreSteps names (map (label_without k) labels) place (remove steps i)
steps-stay names labels k place i [] e lt h = absurd (omega (arith, lt))
steps-stay names labels k place zero (s ∷ steps) e lt h = later-stay names labels k place steps (omega (arith, e)) h.1
steps-stay names labels k place (suc i) (s ∷ steps) e lt h = (
  step-stays names labels (map (label_without k) labels) place place s (behind-earlier k place labels (omega (arith, e))) h.0,
  steps-stay names labels k (place + 1) i steps (omega (arith, e)) (omega (arith, lt)) h.1,
)

-- ---- sections

one-fewer : (k steps fewer : ℕ) → k < steps → fewer + 1 ≡ steps → place_without k steps ≡ fewer
one-fewer k steps fewer below e = grind (arith, nat_tests)

none-before : (k : ℕ) → place_without k 0 ≡ 0
none-before k = grind (arith, nat_tests)

section-stays : (names : Names) (s : Section) (k : ℕ) → k < length s.steps → IsSection names s → IsSection names (section_without k s)
section-stays names s k below h =
    let fewer = length-remove s.steps k below in
    let few = h.few in
    let end = one-fewer k (length s.steps) (length (remove s.steps k)) below fewer in
    let start : place_without k 0 ≡ 0 = none-before k in
    let P : ℕ → Type 0 = λ n. AreLabels n (place_without k 0) (map (label_without k) s.labels) in
    let Q : ℕ → Type 0 = λ n. AreLabels (length (remove s.steps k)) n (map (label_without k) s.labels) in
    record {
      requests = h.requests;
      bytes = h.bytes;
      few = omega (arith, few, fewer);
      steps = steps-stay names s.labels k 0 k s.steps (omega arith) below h.steps;
      labels = subst Q start (subst P end (labels-stay k 0 (length s.steps) s.labels h.labels));
      distinct = ap are_distinct (names-stay k s.labels) ∙ h.distinct;
    }

script-stays : (s : Script) (section : Actor) (k : ℕ) → k < length (section_of s section).steps → IsScript s → IsScript (without_step s section k)
script-stays s actor.P k below h =
    record { declared = h.declared; p = section-stays s.names s.sections.p k below h.p; a = h.a; b = h.b }
script-stays s actor.A k below h =
    record { declared = h.declared; p = h.p; a = section-stays s.names s.sections.a k below h.a; b = h.b }
script-stays s actor.B k below h =
    record { declared = h.declared; p = h.p; a = h.a; b = section-stays s.names s.sections.b k below h.b }

-- the script that its parts make
pub made-without : (s : Script) (names : Names) (sections : Sections Section) (section : Actor) (k : ℕ) → names ≡ s.names
    → sections ≡ sections_without section k s.sections → k < length (section_of s section).steps → IsScript s
    → IsScript (record { names = names; sections = sections })
made-without s names sections section k e f below h = rw (e, f) (script-stays s section k below h)
