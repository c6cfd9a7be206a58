-- The lines of a script less a step are those of the script less that of the step.
use Rattle.std.proofs.Common.{◌≡◌, ℕ, ◌+◌, ◌<◌, ◌≤◌, zero, suc, Some, List, [], ◌∷◌, length, map, slice_get, refl, ap, subst, ◌∙◌, arith, ◌==◌, nat_lt}
use Rattle.std.proofs.Common.{nat_le, cond, ◌++◌, codes, sym, append_assoc, length-append}
use Rattle.std.proofs.{lemmas.Bool.Decides.nat_tests, lemmas.List.Edits.length-remove, lemmas.Bool.le-ltb, lemmas.Bool.ne_eqb, lemmas.List.Sums.sum_by-cons}
use Rattle.std.specs.List.{remove, count_by}
use Rattle.mc_script_text.specs.Values.{Actor, Verb, Class, Sections, Label, Step, Word, Words}
use Rattle.mc_script_text.specs.PrintedScript.{name_at, all_flag_words, bind_words, field_words, step_words, label_lines, step_lines}
use Rattle.mc_script_text.specs.{WithoutStep.HasOtherLines, WithoutStep.StepsLeaveTheOtherLines, Marks.jump_word}
use Rattle.mc_script_text.specs.Values.actor
use Rattle.mc_script_text.specs.Values.step
use Rattle.mc_protocol.specs.{Names.are_distinct, Words.class_index, Words.verb_word}
use Rattle.mc_script.specs.WellFormed.{IsAfter, AreJumps, IsStep, AreSteps, AreLabels, IsSection, IsScript}
use Rattle.mc_script.specs.WithoutStep.{place_without, label_without, section_without, sections_without, without_step}
use Rattle.mc_script.specs.{Script.Names, Script.Section, Script.Script, Script.section_of, WellFormed.label_names, ScriptWords.label_word}
use Rattle.mc_script.proofs.WithoutStep.{names-stay}

-- ---- the line of a step

-- it names labels by their index
words-stay : (names : Names) (labels others : List Label) (s : Step) → label_names others ≡ label_names labels
    → step_words names others s ≡ step_words names labels s
words-stay names labels others (step.Send t jumps bind) e =
    ap (λ (ns : List Word). verb_word t.verb ∷ name_at names.keys t.key ∷ field_words names t
    ++ (all_flag_words names.flags t ++ map (λ (jump : Class × ℕ). jump_word jump.0 (name_at ns jump.1)) jumps ++ bind_words names bind)) e
words-stay names labels others (step.Bind v) e = refl
words-stay names labels others (step.Goto label) e = ap (λ (ns : List Word). codes "goto" ∷ name_at ns label ∷ []) e
words-stay names labels others step.Halt e = refl

-- ---- the lines of labels

-- the place of a label compared with one before the step, and with one after it
at-earlier : (k place at : ℕ) → at < k → (place_without k place == at) ≡ (place == at)
at-earlier k place at h = grind (arith, nat_tests)

at-later : (k place at : ℕ) → k < at → (place_without k place == at) ≡ (place == at + 1)
at-later k place at h = grind (arith, nat_tests)

lines-earlier : (k at : ℕ) (labels : List Label) → at < k → label_lines at (map (label_without k) labels) ≡ label_lines at labels
lines-earlier k at [] h = refl
lines-earlier k at (label ∷ labels) h =
    let line : Words = label_word label.name ∷ [] in
    rw (at-earlier k label.place at h) (ap (λ ls. cond (label.place == at) (line ∷ ls) ls) (lines-earlier k at labels h))

lines-later : (k at : ℕ) (labels : List Label) → k < at → label_lines at (map (label_without k) labels) ≡ label_lines (at + 1) labels
lines-later k at [] h = refl
lines-later k at (label ∷ labels) h =
    let line : Words = label_word label.name ∷ [] in
    rw (at-later k label.place at h) (ap (λ ls. cond (label.place == at + 1) (line ∷ ls) ls) (lines-later k at labels h))

no-lines : (steps least at : ℕ) (labels : List Label) → AreLabels steps least labels → at < least → label_lines at labels ≡ []
no-lines steps least at [] h below = refl
no-lines steps least at (label ∷ labels) h below =
    let from = h.1 in
    rw (ne_eqb label.place at (λ e. absurd (omega (arith, from, e, below)))) (no-lines steps label.place at labels h.3 (omega (arith, from, below)))

join : (k place : ℕ) (line : Words) (moved here next : List Words) → moved ≡ here ++ next → (k < place → here ≡ [])
    → cond (place_without k place == k) (line ∷ moved) moved
    ≡ cond (place == k) (line ∷ here) here ++ cond (place == k + 1) (line ∷ next) next
join k place line moved here next e none = grind (arith, nat_tests)

-- the labels of the step are then before those of the next step, where they stood before
lines-joined : (steps least k : ℕ) (labels : List Label) → AreLabels steps least labels
    → label_lines k (map (label_without k) labels) ≡ label_lines k labels ++ label_lines (k + 1) labels
lines-joined steps least k [] h = refl
lines-joined steps least k (label ∷ labels) h =
    join k label.place (label_word label.name ∷ []) (label_lines k (map (label_without k) labels)) (label_lines k labels) (label_lines (k + 1) labels)
    (lines-joined steps label.place k labels h.3) (λ lt. no-lines steps label.place k labels h.3 lt)

-- ---- the lines of steps

later-lines : (names : Names) (labels : List Label) (k place : ℕ) (steps : List Step) → k < place
    → step_lines names (map (label_without k) labels) place steps ≡ step_lines names labels (place + 1) steps
later-lines names labels k place [] h = lines-later k place labels h
later-lines names labels k place (s ∷ steps) h =
    rw (
      lines-later k place labels h,
      words-stay names labels (map (label_without k) labels) s (names-stay k labels),
      later-lines names labels k (place + 1) steps (omega (arith, h)),
    ) refl

-- the lines after that of the step at place k
joined-lines : (names : Names) (labels : List Label) (count k : ℕ) (steps : List Step) → AreLabels count 0 labels
    → step_lines names (map (label_without k) labels) k steps ≡ label_lines k labels ++ step_lines names labels (k + 1) steps
joined-lines names labels count k [] h = lines-joined count 0 k labels h
joined-lines names labels count k (s ∷ steps) h =
    rw (
      lines-joined count 0 k labels h,
      words-stay names labels (map (label_without k) labels) s (names-stay k labels),
      later-lines names labels k (k + 1) steps (omega arith),
    ) (append_assoc (label_lines k labels) (label_lines (k + 1) labels)
    (step_words names labels s ∷ step_lines names labels (k + 1 + 1) steps))

-- ---- how many lines stand before that of the step

abbrev earlier : ℕ → List Label → ℕ
earlier place labels = count_by (λ (label : Label). nat_lt label.place place) labels

earlier-cons : (place : ℕ) (label : Label) (labels : List Label)
    → earlier place (label ∷ labels) ≡ cond (nat_lt label.place place) 1 0 + earlier place labels
earlier-cons place label labels = sum_by-cons (λ (l : Label). cond (nat_lt l.place place) 1 0) label labels

none-earlier : (labels : List Label) → earlier 0 labels ≡ 0
none-earlier [] = refl
none-earlier (label ∷ labels) = rw (earlier-cons 0 label labels, le-ltb label.place 0 (omega arith)) (let n = none-earlier labels in omega (arith, n))

one-more : (place at more now : ℕ) (line : Words) (lines : List Words) → length lines + more ≡ now
    → length (cond (at == place) (line ∷ lines) lines) + (cond (nat_lt at place) 1 0 + more) ≡ cond (nat_lt at (place + 1)) 1 0 + now
one-more place at more now line lines e = grind (arith, nat_tests)

earlier-more : (place : ℕ) (labels : List Label) → length (label_lines place labels) + earlier place labels ≡ earlier (place + 1) labels
earlier-more place [] = refl
earlier-more place (label ∷ labels) =
    rw (earlier-cons place label labels, earlier-cons (place + 1) label labels)
    (one-more place label.place (earlier place labels) (earlier (place + 1) labels) (label_word label.name ∷ []) (label_lines place labels)
    (earlier-more place labels))

not-after : (k at : ℕ) → nat_lt at (k + 1) ≡ nat_le at k
not-after k at = grind (arith, nat_tests)

not-behind : (k : ℕ) (labels : List Label) → earlier (k + 1) labels ≡ count_by (λ label. nat_le label.place k) labels
not-behind k [] = refl
not-behind k (label ∷ labels) =
    rw (
      earlier-cons (k + 1) label labels,
      sum_by-cons (λ (l : Label). cond (nat_le l.place k) 1 0) label labels,
      not-after k label.place,
      not-behind k labels,
    ) refl

-- ---- the line of the step

-- from this place on, the step to leave out standing i places further on
record Leaves (names : Names) (labels : List Label) (k place i : ℕ) (steps : List Step) : Type 0 where
  left : Step
  before : List Words
  after : List Words
  there : slice_get steps i ≡ Some left
  lines : step_lines names labels place steps ≡ before ++ step_words names labels left ∷ after
  others : step_lines names (map (label_without k) labels) place (remove steps i) ≡ before ++ after
  number : length before + earlier place labels ≡ i + earlier (k + 1) labels

leaves : (names : Names) (labels : List Label) (count k place i : ℕ) (steps : List Step) → AreLabels count 0 labels → place + i ≡ k → i < length steps
    → Leaves names labels k place i steps
leaves names labels count k place i [] h e lt = absurd (omega (arith, lt))
leaves names labels count k place zero (s ∷ steps) h e lt =
    let here : place ≡ k = omega (arith, e) in
    let more = earlier-more place labels in
    let P : ℕ → Type 0 = λ n. step_lines names (map (label_without k) labels) n steps ≡ label_lines n labels ++ step_lines names labels (n + 1) steps in
    record {
      left = s;
      before = label_lines place labels;
      after = step_lines names labels (place + 1) steps;
      there = refl;
      lines = refl;
      others = subst P (sym here) (joined-lines names labels count k steps h);
      number = more ∙ ap (λ n. earlier (n + 1) labels) here ∙ sym (omega arith);
    }
leaves names labels count k place (suc i) (s ∷ steps) h e lt =
    let rest = leaves names labels count k (place + 1) i steps h (omega (arith, e)) (omega (arith, lt)) in
    let here = label_lines place labels in
    let line = step_words names labels s in
    let more = earlier-more place labels in
    let n = rest.number in
    let long = length-append here (line ∷ rest.before) in
    record {
      left = rest.left;
      before = here ++ line ∷ rest.before;
      after = rest.after;
      there = rest.there;
      lines = ap (λ ls. here ++ line ∷ ls) rest.lines ∙ sym (append_assoc here (line ∷ rest.before) (step_words names labels rest.left ∷ rest.after));
      others = rw (lines-earlier k place labels (omega (arith, e)), words-stay names labels (map (label_without k) labels) s (names-stay k labels))
          (ap (λ ls. here ++ line ∷ ls) rest.others ∙ sym (append_assoc here (line ∷ rest.before) rest.after));
      number = omega (arith, more, n, long);
    }

section-leaves : (names : Names) (s : Section) (k : ℕ) → k < length s.steps → IsSection names s → HasOtherLines names s (section_without k s) k
section-leaves names s k below h =
    let all = leaves names s.labels (length s.steps) k 0 k s.steps h.labels (omega arith) below in
    let number = all.number in
    let none = none-earlier s.labels in
    let upto = not-behind k s.labels in
    record {
      step = all.left;
      before = all.before;
      after = all.after;
      there = all.there;
      lines = all.lines;
      others = all.others;
      place = omega (arith, number, none, upto);
    }

pub steps_leave : StepsLeaveTheOtherLines
steps_leave s actor.P k h below = section-leaves s.names s.sections.p k below h.p
steps_leave s actor.A k h below = section-leaves s.names s.sections.a k below h.a
steps_leave s actor.B k h below = section-leaves s.names s.sections.b k below h.b
