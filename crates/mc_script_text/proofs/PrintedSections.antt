-- The lines of steps and of sections as they are printed: they spell the section.
use Rattle.std.proofs.Common.{◌≡◌, ℕ, ◌+◌, ◌<◌, ◌==◌, ◌^◌, nat_le, true, Option, Some, List, [], ◌∷◌, ◌++◌, length, decimal, refl, sym, ap, ◌∙◌, arith, ◌≤◌}
use Rattle.std.proofs.lemmas.Bool.{eqb-true, leb-true, ltb-true, and_parts, and_from, ne_eqb, le-leb, cond_both}
use Rattle.std.proofs.{Common.Bool, Common.false, Common.cond, Common.subst, Common.append-nil, lemmas.Bool.Decides.nat_tests}
use Rattle.std.specs.List.{list_all}
use Rattle.mc_protocol.specs.Decimals.{SpellsNumber, MAX_32, MAX_64}
use Rattle.mc_protocol.specs.{Fields.fields_of, Words.verb_word, declared.request.Verb.TheVariants.Set, Names.is_name, Names.are_distinct, Spelling.SpellEach}
use Rattle.mc_script_text.specs.Values.{Fields, Verb, Class, KEY_BYTES_LIMIT, Word, Words, Entry, Sign, NAME_BYTES_LIMIT, Label, Argument, Step, Template}
use Rattle.mc_script_text.specs.SectionText.{SpellsEntry, SpellsFields, SpellsVariable, SpellsUnique, SpellsAmount, SpellsSection}
use Rattle.mc_script_text.specs.Steps.{in_front, with_marks, steps_from, labels_from}
use Rattle.mc_script_text.specs.PrintedScript.{name_at, label_at, item_words, argument_words, mark_words, field_words, step_words, label_lines, step_lines}
use Rattle.mc_script_text.specs.{Values.Version, Marks.SpellsMark, Marks.mask_of, Marks.bound_by, PrintedScript.section_lines}
use Rattle.mc_script_text.specs.Values.fields
use Rattle.mc_script_text.specs.Values.entry
use Rattle.mc_script_text.specs.Values.sign
use Rattle.mc_script_text.specs.Values.argument
use Rattle.mc_script_text.specs.Values.step
use Rattle.mc_protocol.proofs.Decimals.{decimal-spells}
use Rattle.mc_script.specs.Chains.{◌>>=◌}
use Rattle.mc_script.specs.ScriptWords.{is_label_name, is_body, body_word, variable_word, label_word}
use Rattle.mc_script.specs.Templates.{IsTemplate, has_fields, is_nothing, is_variable, is_amount, is_empty}
use Rattle.mc_script.specs.WellFormed.{IsStep, AreSteps, AreLabels, IsSection}
use Rattle.mc_script.specs.{Script.Names, Script.Section, WellFormed.label_names, Versions.steps_limit}
use Rattle.mc_script_text.proofs.PrintedLines.{is_whole, are_whole, is_line, are_lines}
use Rattle.mc_script_text.proofs.PrintedNames.{decimal-whole, named-whole, body-whole, name-has, index-found, label-found, label-whole}
use Rattle.mc_script_text.proofs.PrintedFlags.{With, both-apart, all-append, each-append, each-cond}
use Rattle.mc_script_text.proofs.PrintedMarks.{Known, front-name, behind-named, marks_of, marks-spell, marks-together, mask_at, says-mask}
use Rattle.mc_script_text.proofs.{Lists.three, Lists.some-first, EntryWords.same-template, PrintedJumps.says-bind, PrintedJumps.says-jumps}

-- ---- fields

nothing-is : (a : Argument) → is_nothing a ≡ true → a ≡ argument.Nothing
nothing-is argument.Nothing h = refl
nothing-is a h = absurd (cc)

empty-is : (body : List ℕ) → is_empty body ≡ true → body ≡ []
empty-is [] h = refl
empty-is (byte ∷ body) h = absurd (omega (arith, eqb-true (length (byte ∷ body)) 0 h))

-- the variable's word spells it, and is whole
variable-spells : (names : Names) (v : ℕ) → Known names → v < length names.vars
    → SpellsVariable names (variable_word (name_at names.vars v)) v × (is_whole (variable_word (name_at names.vars v)) ≡ true)
variable-spells names v k lt =
    ((name_at names.vars v, refl, index-found names.vars v k.vars lt), front-name 36 names.vars v refl k.var_names lt)

unique-spells : (names : Names) (a : Argument) → Known names → is_variable (length names.vars) a ≡ true
    → (word : Word) × (argument_words names a ≡ word ∷ []) × SpellsUnique names word a × (is_whole word ≡ true)
unique-spells names (argument.Variable v) k h =
    let s = variable-spells names v k (ltb-true v (length names.vars) h) in (variable_word (name_at names.vars v), refl, s.0, s.1)
unique-spells names a k h = absurd (cc)

amount-spells : (names : Names) (a : Argument) → Known names → is_amount (length names.vars) a ≡ true
    → (word : Word) × (argument_words names a ≡ word ∷ []) × SpellsAmount names word a × (is_whole word ≡ true)
amount-spells names argument.Nothing k h = absurd (cc)
amount-spells names (argument.Number n) k h =
    let small = leb-true n MAX_64 h in (decimal n, refl, decimal-spells MAX_64 n (omega arith) small, decimal-whole n small)
amount-spells names (argument.Variable v) k h =
    let s = variable-spells names v k (ltb-true v (length names.vars) h) in (variable_word (name_at names.vars v), refl, s.0, s.1)

-- the template without flags
abbrev pub bare : Template → Template
bare t = record {
  verb = t.verb;
  key = t.key;
  flags = t.flags;
  argument = t.argument;
  body = t.body;
  require_set = 0;
  require_clear = 0;
  sets = 0;
  clears = 0;
}

flags-spell : (flags : ℕ) → nat_le flags MAX_32 ≡ true → SpellsNumber MAX_32 (decimal flags) flags × (is_whole (decimal flags) ≡ true)
flags-spell flags h =
    let small = leb-true flags MAX_32 h in (decimal-spells MAX_32 flags (omega arith) small, decimal-whole flags (omega (arith, small)))

fields-spell : (names : Names) (shape : Fields) (t : Template) → Known names → has_fields (length names.vars) shape t.flags t.argument t.body ≡ true
    → SpellsFields names shape (item_words shape t.flags t.body ++ argument_words names t.argument) (bare t)
    × (are_whole (item_words shape t.flags t.body ++ argument_words names t.argument) ≡ true)
fields-spell names fields.Item t k h =
    let p = three (nat_le t.flags MAX_32) (is_nothing t.argument) (is_body t.body) h in
    let a = nothing-is t.argument p.1 in
    let f = flags-spell t.flags p.0 in (
      (decimal t.flags, ap (λ x. decimal t.flags ∷ body_word t.body ∷ argument_words names x) a, f.0, a, p.2),
      rw (f.1, body-whole t.body p.2, a) refl,
    )
fields-spell names fields.Swap t k h =
    let p = three (nat_le t.flags MAX_32) (is_variable (length names.vars) t.argument) (is_body t.body) h in
    let (word, e, s, w) = unique-spells names t.argument k p.1 in
    let f = flags-spell t.flags p.0 in (
      (decimal t.flags, word, ap (λ x. decimal t.flags ∷ body_word t.body ∷ x) e, f.0, s, p.2),
      rw (f.1, body-whole t.body p.2, e, w) refl,
    )
fields-spell names fields.Amount t k h =
    let p = three (t.flags == 0) (is_amount (length names.vars) t.argument) (is_empty t.body) h in
    let (word, e, s, w) = amount-spells names t.argument k p.1 in
    ((word, e, eqb-true t.flags 0 p.0, s, empty-is t.body p.2), rw (e, w) refl)
fields-spell names shape t k h =
    let p = three (t.flags == 0) (is_nothing t.argument) (is_empty t.body) h in
    let a = nothing-is t.argument p.1 in
    ((ap (argument_words names) a, eqb-true t.flags 0 p.0, a, empty-is t.body p.2), rw a refl)

-- ---- entries

verb-whole : (v : Verb) → is_whole (verb_word v) ≡ true
verb-whole Set = refl
verb-whole v = refl

pub line-from : (word : Word) (words : Words) → are_whole (word ∷ words) ≡ true → is_line (word ∷ words) ≡ true
line-from word words h = rw (some-first word words) h

abbrev pub step_entry : Names → List Label → Step → Entry
step_entry names labels (step.Send t jumps bind) = entry.Send (bare t) (marks_of names.flags labels t jumps bind)
step_entry names labels (step.Bind variable) = entry.Bind variable
step_entry names labels (step.Goto label) = entry.Goto (label_at labels label)
step_entry names labels step.Halt = entry.Halt

pub step-spells : (names : Names) (labels : List Label) (place : ℕ) (s : Step) → Known names → list_all is_label_name (label_names labels) ≡ true
    → IsStep names labels place s → With (SpellsEntry names) is_line (step_words names labels s) (step_entry names labels s)
step-spells names labels place (step.Send t jumps bind) k all (h, j, b) =
    let key = name_at names.keys t.key in
    let fields = field_words names t in
    let marks = mark_words names labels t jumps bind in
    let f = fields-spell names (fields_of t.verb) t k h.fields in
    let m = both-apart (SpellsMark names) is_whole marks (marks_of names.flags labels t jumps bind) (marks-spell names labels place t jumps bind k all j b) in
    let key_whole = named-whole KEY_BYTES_LIMIT key (name-has (is_name KEY_BYTES_LIMIT) names.keys t.key k.key_names h.key) in (
      record {
        key = key;
        fields = fields;
        others = marks;
        words = refl;
        declared = index-found names.keys t.key k.keys h.key;
        spelled = f.0;
        bare = record { require_set = refl; require_clear = refl; sets = refl; clears = refl };
        marked = m.0;
        together = marks-together names (length names.keys) labels place t jumps bind h j b;
      },
      line-from (verb_word t.verb) (key ∷ fields ++ marks)
          (rw (verb-whole t.verb, key_whole) (all-append is_whole fields marks f.1 m.1)),
    )
step-spells names labels place (step.Bind v) k all h = (
  (name_at names.vars v, refl, index-found names.vars v k.vars h),
  rw (named-whole NAME_BYTES_LIMIT (name_at names.vars v) (name-has (is_name NAME_BYTES_LIMIT) names.vars v k.var_names h)) refl,
)
step-spells names labels place (step.Goto l) k all h =
    (refl, rw (named-whole NAME_BYTES_LIMIT (label_at labels l) (behind-named labels place l all h)) refl)
step-spells names labels place step.Halt k all h = (refl, refl)

-- ---- steps again

marked-again : (names : Names) (labels : List Label) (t : Template) (jumps : List (Class × ℕ)) (bind : Option ℕ)
    → IsTemplate (length names.keys) (length names.flags) (length names.vars) t → with_marks (bare t) (marks_of names.flags labels t jumps bind) ≡ t
marked-again names labels t jumps bind h =
    let fs = names.flags in
    let says : (u : Sign) → mask_at t u < 2 ^ length fs → mask_at t u ≡ mask_of u (marks_of fs labels t jumps bind) =
    λ u small. sym (says-mask fs labels t jumps bind u small) in
    same-template t _ _ _ _ (says sign.RequireSet h.require_set) (says sign.RequireClear h.require_clear) (says sign.Sets h.sets) (says sign.Clears h.clears)

pub step-again : (names : Names) (labels : List Label) (place : ℕ) (s : Step) (entries : List Entry) → are_distinct (label_names labels) ≡ true
    → IsStep names labels place s
    → steps_from labels place (step_entry names labels s ∷ entries) ≡ in_front (Some s) (steps_from labels (place + 1) entries)
step-again names labels place (step.Send t jumps bind) entries distinct (h, j, b) =
    let M = marks_of names.flags labels t jumps bind in
    let rest = steps_from labels (place + 1) entries in
    ap (λ o. in_front (o >>= λ js. Some (step.Send (with_marks (bare t) M) js (bound_by M))) rest)
    (says-jumps t.verb names.flags labels place t jumps bind distinct j)
    ∙ ap (λ x. in_front (Some (step.Send x jumps (bound_by M))) rest) (marked-again names labels t jumps bind h)
    ∙ ap (λ x. in_front (Some (step.Send t jumps x)) rest) (says-bind names.flags labels t jumps bind)
step-again names labels place (step.Bind v) entries distinct h = refl
step-again names labels place (step.Goto l) entries distinct (label, get, lt) =
    ap (λ o. in_front (o >>= λ l. Some (step.Goto l)) (steps_from labels (place + 1) entries)) (label-found labels place l label distinct get lt)
step-again names labels place step.Halt entries distinct h = refl

-- ---- labels

abbrev label_entries : ℕ → List Label → List Entry
label_entries place [] = []
label_entries place (label ∷ labels) = cond (label.place == place) (entry.Label label.name ∷ label_entries place labels) (label_entries place labels)

label-names : (steps place : ℕ) (labels : List Label) → AreLabels steps place labels → list_all is_label_name (label_names labels) ≡ true
label-names steps place [] h = refl
label-names steps place (label ∷ labels) h =
    and_from (is_label_name label.name) (list_all is_label_name (label_names labels)) h.0 (label-names steps label.place labels h.3)

labels-spell : (names : Names) (place : ℕ) (labels : List Label) → list_all is_label_name (label_names labels) ≡ true
    → SpellEach (With (SpellsEntry names) is_line) (label_lines place labels) (label_entries place labels)
labels-spell names place [] all = tt
labels-spell names place (label ∷ labels) all =
    let p = and_parts (is_label_name label.name) (list_all is_label_name (label_names labels)) all in
    each-cond (With (SpellsEntry names) is_line) (label.place == place) (label_word label.name ∷ []) (entry.Label label.name) (label_lines place labels)
    (label_entries place labels) ((refl, p.0), rw (label-whole label.name p.0) refl) (labels-spell names place labels p.1)

-- the labels of a place, and those from a place on
abbrev labels_at : ℕ → List Label → List Label
labels_at place [] = []
labels_at place (label ∷ labels) = cond (label.place == place) (label ∷ labels_at place labels) (labels_at place labels)

abbrev labels_beyond : ℕ → List Label → List Label
labels_beyond place [] = []
labels_beyond place (label ∷ labels) = cond (nat_le place label.place) (label ∷ labels_beyond place labels) (labels_beyond place labels)

label-made : (place : ℕ) (label : Label) → label.place ≡ place → ◌≡◌ {A = Label} (record { name = label.name; place = place }) label
label-made place label e = rw (← e) refl

labels-before : (place : ℕ) (labels : List Label) (rest : List Entry)
    → labels_from place (label_entries place labels ++ rest) ≡ labels_at place labels ++ labels_from place rest
labels-before place [] rest = refl
labels-before place (label ∷ labels) rest = go (label.place == place) refl (labels-before place labels rest)
  where
    go : (b : Bool) → (label.place == place) ≡ b → labels_from place (label_entries place labels ++ rest) ≡ labels_at place labels ++ labels_from place rest
        → labels_from place (cond b (entry.Label label.name ∷ label_entries place labels) (label_entries place labels) ++ rest)
        ≡ cond b (label ∷ labels_at place labels) (labels_at place labels) ++ labels_from place rest
    go true e h = ap (λ l. record { name = label.name; place = place } ∷ l) h
        ∙ ap (λ l. l ∷ (labels_at place labels ++ labels_from place rest)) (label-made place label (eqb-true label.place place e))
    go false e h = h

none-at : (steps least place : ℕ) (labels : List Label) → AreLabels steps least labels → place < least → labels_at place labels ≡ []
none-at steps least place [] h lt = refl
none-at steps least place (label ∷ labels) h lt =
    let from = h.1 in
    rw (ne_eqb label.place place (λ e. absurd (omega (arith, from, lt, e)))) (none-at steps label.place place labels h.3 (omega (arith, from, lt)))

split-one : (place at : ℕ) (l : Label) (from here after : List Label) → from ≡ here ++ after → (place < at → here ≡ [])
    → cond (nat_le place at) (l ∷ from) from ≡ cond (at == place) (l ∷ here) here ++ cond (nat_le (place + 1) at) (l ∷ after) after
split-one place at l from here after e none = grind (arith, nat_tests)

labels-split : (steps least place : ℕ) (labels : List Label) → AreLabels steps least labels
    → labels_beyond place labels ≡ labels_at place labels ++ labels_beyond (place + 1) labels
labels-split steps least place [] h = refl
labels-split steps least place (label ∷ labels) h =
    split-one place label.place label (labels_beyond place labels) (labels_at place labels) (labels_beyond (place + 1) labels)
    (labels-split steps label.place place labels h.3) (λ gt. none-at steps label.place place labels h.3 gt)

end-one : (steps at : ℕ) (l : Label) (here from : List Label) → here ≡ from → at ≤ steps
    → cond (at == steps) (l ∷ here) here ≡ cond (nat_le steps at) (l ∷ from) from
end-one steps at l here from e to = grind (arith, nat_tests)

labels-end : (steps least : ℕ) (labels : List Label) → AreLabels steps least labels → labels_at steps labels ≡ labels_beyond steps labels
labels-end steps least [] h = refl
labels-end steps least (label ∷ labels) h =
    end-one steps label.place label (labels_at steps labels) (labels_beyond steps labels) (labels-end steps label.place labels h.3) h.2

labels-start : (labels : List Label) → labels_beyond 0 labels ≡ labels
labels-start [] = refl
labels-start (label ∷ labels) = rw (le-leb 0 label.place (omega arith)) (ap (λ l. label ∷ l) (labels-start labels))

-- ---- steps

abbrev step_entries : Names → List Label → ℕ → List Step → List Entry
step_entries names labels place [] = label_entries place labels
step_entries names labels place (s ∷ steps) = label_entries place labels ++ step_entry names labels s ∷ step_entries names labels (place + 1) steps

lines-spell : (names : Names) (labels : List Label) (place : ℕ) (steps : List Step) → Known names → list_all is_label_name (label_names labels) ≡ true
    → AreSteps names labels place steps
    → SpellEach (With (SpellsEntry names) is_line) (step_lines names labels place steps) (step_entries names labels place steps)
lines-spell names labels place [] k all h = labels-spell names place labels all
lines-spell names labels place (s ∷ steps) k all h =
    each-append (With (SpellsEntry names) is_line) _ _ _ _ (labels-spell names place labels all)
    (step-spells names labels place s k all h.0, lines-spell names labels (place + 1) steps k all h.1)

labels-behind : (names : Names) (labels : List Label) (place : ℕ) (s : Step) (entries : List Entry)
    → labels_from place (step_entry names labels s ∷ entries) ≡ labels_from (place + 1) entries
labels-behind names labels place step.Halt entries = refl
labels-behind names labels place s entries = refl

labels-again : (names : Names) (labels : List Label) (count place : ℕ) (steps : List Step) → AreLabels count 0 labels → count ≡ place + length steps
    → labels_from place (step_entries names labels place steps) ≡ labels_beyond place labels
labels-again names labels count place [] h e =
    let here : count ≡ place = omega (arith, e) in
    let P : ℕ → Type 0 = λ n. labels_at n labels ≡ labels_beyond n labels in
    ap (labels_from place) (sym (append-nil (label_entries place labels))) ∙ labels-before place labels [] ∙ append-nil (labels_at place labels)
    ∙ subst P here (labels-end count 0 labels h)
labels-again names labels count place (s ∷ steps) h e =
    labels-before place labels (step_entry names labels s ∷ step_entries names labels (place + 1) steps)
    ∙ ap (λ l. labels_at place labels ++ l) (labels-behind names labels place s (step_entries names labels (place + 1) steps)
    ∙ labels-again names labels count (place + 1) steps h (omega (arith, e)))
    ∙ sym (labels-split count 0 place labels h)

steps-before : (labels : List Label) (place at : ℕ) (some : List Label) (rest : List Entry)
    → steps_from labels place (label_entries at some ++ rest) ≡ steps_from labels place rest
steps-before labels place at [] rest = refl
steps-before labels place at (label ∷ some) rest =
    cond_both (label.place == at) (entry.Label label.name ∷ label_entries at some) (label_entries at some)
    (λ es. steps_from labels place (es ++ rest) ≡ steps_from labels place rest) (λ _. steps-before labels place at some rest)
    (λ _. steps-before labels place at some rest)

steps-again : (names : Names) (labels : List Label) (place : ℕ) (steps : List Step) → are_distinct (label_names labels) ≡ true
    → AreSteps names labels place steps → steps_from labels place (step_entries names labels place steps) ≡ Some steps
steps-again names labels place [] distinct h =
    ap (steps_from labels place) (sym (append-nil (label_entries place labels))) ∙ steps-before labels place place labels []
steps-again names labels place (s ∷ steps) distinct h =
    let rest = step_entries names labels (place + 1) steps in
    steps-before labels place place labels (step_entry names labels s ∷ rest) ∙ step-again names labels place s rest distinct h.0
    ∙ ap (λ o. in_front (Some s) o) (steps-again names labels (place + 1) steps distinct h.1)

pub section-lines : (names : Names) (s : Section) → Known names → IsSection names s
    → SpellEach (SpellsEntry names) (section_lines names s) (step_entries names s.labels 0 s.steps) × (are_lines (section_lines names s) ≡ true)
section-lines names s k h =
    both-apart (SpellsEntry names) is_line (section_lines names s) (step_entries names s.labels 0 s.steps)
    (lines-spell names s.labels 0 s.steps k (label-names (length s.steps) 0 s.labels h.labels) h.steps)

pub section-spells : (v : Version) (names : Names) (s : Section) → Known names → IsSection names s → length s.steps ≤ steps_limit v
    → SpellsSection v names (section_lines names s) s
section-spells v names s k h few = record {
  entries = step_entries names s.labels 0 s.steps;
  spelled = (section-lines names s k h).0;
  labels = sym (labels-again names s.labels (length s.steps) 0 s.steps h.labels (omega arith) ∙ labels-start s.labels);
  distinct = h.distinct;
  steps = steps-again names s.labels 0 s.steps h.distinct h.steps;
  few = few;
}
