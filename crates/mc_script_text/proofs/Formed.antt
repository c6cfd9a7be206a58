-- A script that a text spells is well formed.
use Rattle.std.proofs.Common.{◌≡◌, ℕ, ◌+◌, ◌<◌, ◌≤◌, Bool, true, false, not, ◌&&◌, Option, Some, None, List, [], ◌∷◌, length, refl, sym, subst, arith}
use Rattle.std.proofs.{lemmas.Bool.and_parts, lemmas.Bool.le-leb, lemmas.Bool.lt-ltb, lemmas.List.Quantifiers.position-Some, lemmas.Nat.pow_pos}
use Rattle.std.specs.{List.list_all, List.list_any, Str.bytes_eq}
use Rattle.mc_protocol.specs.{Fields.fields_of, Names.index_of, Decimals.MAX_32, Decimals.MAX_64, Words.all_classes, Spelling.SpellEach}
use Rattle.mc_script_text.specs.Values.{Actor, Fields, Verb, Class, Word, Words, Entry, Mark, Label, Argument, Step, Template, Version}
use Rattle.mc_script_text.specs.Marks.{SpellsMark, may_stand, may_stand_together, have_no_twins, is_bind, is_number_jump, bound_by}
use Rattle.mc_script_text.specs.SectionText.{SpellsAmount, SpellsUnique, SpellsFields, SpellsRequest, SpellsEntry, SpellsSection}
use Rattle.mc_script_text.specs.Steps.{with_marks, jumps_on, label_after, labels_from, step_in, steps_from}
use Rattle.mc_script_text.specs.{ScriptText.SpellsBudget, ScriptText.SpellsScript, Reading.step_total}
use Rattle.mc_script_text.specs.Values.actor
use Rattle.mc_script_text.specs.Values.fields
use Rattle.mc_script_text.specs.Values.entry
use Rattle.mc_script_text.specs.Values.mark
use Rattle.mc_script_text.specs.Values.sign
use Rattle.mc_script_text.specs.Values.argument
use Rattle.mc_script_text.specs.Values.step
use Rattle.mc_script.specs.Templates.{IsTemplate, has_fields, is_variable, is_amount}
use Rattle.mc_script.specs.WellFormed.{IsStep, AreSteps, AreLabels, IsSection, IsScript, MayBind}
use Rattle.mc_script.specs.{Script.Names, Script.Section, Script.Script, WellFormed.shows_numbers}
use Rattle.mc_script_text.proofs.{Declared.steps-within, Outcomes.then-some, Outcomes.some-same, Outcomes.front-parts, Masks.mask-below, Masks.masks-apart}
use Rattle.mc_script_text.proofs.{JumpLists.label-after, JumpLists.jumps-formed, JumpLists.no-number-jump, Lists.three, SectionLines.steps_count}

index-below : (names : List Word) (name : Word) (index : ℕ) → index_of names name ≡ Some index → index < length names
index-below names name index h = (position-Some (λ n. bytes_eq n name) names index [] h).0

-- ---- templates

unique-formed : (names : Names) (word : Word) (a : Argument) → SpellsUnique names word a → is_variable (length names.vars) a ≡ true
unique-formed names word (argument.Variable v) (name, e, i) = lt-ltb v (length names.vars) (index-below names.vars name v i)
unique-formed names word a s = absurd s

amount-formed : (names : Names) (word : Word) (a : Argument) → SpellsAmount names word a → is_amount (length names.vars) a ≡ true
amount-formed names word argument.Nothing s = absurd s
amount-formed names word (argument.Number n) s = le-leb n MAX_64 s.small
amount-formed names word (argument.Variable v) (name, e, i) = lt-ltb v (length names.vars) (index-below names.vars name v i)

fields-formed : (names : Names) (shape : Fields) (words : Words) (t : Template) → SpellsFields names shape words t
    → has_fields (length names.vars) shape t.flags t.argument t.body ≡ true
fields-formed names fields.Item words t (flags, e, n, a, b) = rw (le-leb t.flags MAX_32 n.small, a, b) refl
fields-formed names fields.Swap words t (flags, unique, e, n, u, b) =
    rw (le-leb t.flags MAX_32 n.small, unique-formed names unique t.argument u, b) refl
fields-formed names fields.Amount words t (amount, e, f, a, b) = rw (f, b, amount-formed names amount t.argument a) refl
fields-formed names fields.KeyAlone words t (e, f, a, b) = rw (f, a, b) refl
fields-formed names fields.Expiry words t (e, f, a, b) = rw (f, a, b) refl

template-formed : (names : Names) (line : Words) (t : Template) (marks : List Mark) → SpellsRequest names line t marks
    → IsTemplate (length names.keys) (length names.flags) (length names.vars) (with_marks t marks)
template-formed names line t marks s =
    let together = three (list_all (may_stand t.verb) marks) (have_no_twins marks) _ s.together in
    let none = pow_pos (length names.flags) in
    record {
      key = index-below names.keys s.key t.key s.declared;
      fields = fields-formed names (fields_of t.verb) s.fields t s.spelled;
      require_set = mask-below names s.others marks sign.RequireSet 0 s.marked none;
      require_clear = mask-below names s.others marks sign.RequireClear 0 s.marked none;
      sets = mask-below names s.others marks sign.Sets 0 s.marked none;
      clears = mask-below names s.others marks sign.Clears 0 s.marked none;
      needs_apart = masks-apart sign.RequireSet sign.RequireClear marks refl refl refl refl together.1;
      changes_apart = masks-apart sign.Sets sign.Clears marks refl refl refl refl together.1;
    }

-- ---- steps

bound-parts : (names : Names) (v : Verb) (words : Words) (marks : List Mark) (variable : ℕ) → SpellEach (SpellsMark names) words marks
    → list_all (may_stand v) marks ≡ true → bound_by marks ≡ Some variable
    → (variable < length names.vars) × (shows_numbers v ≡ true) × (list_any is_bind marks ≡ true)
bound-parts names v [] [] variable e stand h = absurd (cc)
bound-parts names v (w ∷ ws) (mark.Flag s f ∷ marks) variable e stand h = bound-parts names v ws marks variable e.1 stand h
bound-parts names v (w ∷ ws) (mark.Jump c l ∷ marks) variable e stand h =
    bound-parts names v ws marks variable e.1 (and_parts (may_stand v (mark.Jump c l)) (list_all (may_stand v) marks) stand).1 h
bound-parts names v (w ∷ ws) (mark.Bind x ∷ marks) variable e stand h =
    let (name, f, i) = e.0 in
    let same = some-same x variable h in
    let P : ℕ → Type 0 = λ n. n < length names.vars in
    (subst P same (index-below names.vars name x i), (and_parts (shows_numbers v) (list_all (may_stand v) marks) stand).0, refl)
bound-parts names v ws marks variable e stand h = absurd e

free-parts : (a b : Bool) → not (a && b) ≡ true → a ≡ true → b ≡ false
free-parts a b h e = grind arith

bind-formed : (names : Names) (v : Verb) (words : Words) (marks : List Mark) (labels : List Label) (place : ℕ) (jumps : List (Class × ℕ)) (o : Option ℕ)
    → bound_by marks ≡ o → SpellEach (SpellsMark names) words marks → may_stand_together v marks ≡ true
    → jumps_on labels place marks all_classes ≡ Some jumps → MayBind names v jumps o
bind-formed names v words marks labels place jumps None b e together h = tt
bind-formed names v words marks labels place jumps (Some variable) b e together h =
    let t = three (list_all (may_stand v) marks) (have_no_twins marks) (not (list_any is_bind marks && list_any is_number_jump marks)) together in
    let p = bound-parts names v words marks variable e t.0 b in
    (p.0, p.1, no-number-jump labels place marks all_classes jumps (free-parts (list_any is_bind marks) (list_any is_number_jump marks) t.2 p.2) h)

request-formed : (names : Names) (line : Words) (t : Template) (marks : List Mark) (labels : List Label) (place : ℕ) (jumps : List (Class × ℕ))
    → SpellsRequest names line t marks → jumps_on labels place marks all_classes ≡ Some jumps
    → IsStep names labels place (step.Send (with_marks t marks) jumps (bound_by marks))
request-formed names line t marks labels place jumps r j =
    let together = three (list_all (may_stand t.verb) marks) (have_no_twins marks) _ r.together in (
      template-formed names line t marks r,
      jumps-formed t.verb labels place marks jumps together.0 j,
      bind-formed names t.verb r.others marks labels place jumps (bound_by marks) refl r.marked r.together j,
    )

step-formed : (names : Names) (line : Words) (e : Entry) (labels : List Label) (place : ℕ) (s : Step) → SpellsEntry names line e
    → step_in labels place e ≡ Some s → IsStep names labels place s
step-formed names line (entry.Label name) labels place s spelled h = absurd (cc)
step-formed names line (entry.Send t marks) labels place s spelled h =
    let P : Step → Type 0 = IsStep names labels place in
    let p = then-some (jumps_on labels place marks all_classes) _ _ h in
    subst P (some-same _ s p.2) (request-formed names line t marks labels place p.0 spelled p.1)
step-formed names line (entry.Bind v) labels place s (name, f, i) h =
    let P : Step → Type 0 = IsStep names labels place in subst P (some-same (step.Bind v) s h) (index-below names.vars name v i)
step-formed names line (entry.Goto name) labels place s spelled h =
    let P : Step → Type 0 = IsStep names labels place in
    let p = then-some (label_after labels place name) _ _ h in
    subst P (some-same (step.Goto p.0) s p.2) (label-after labels place p.0 name p.1)
step-formed names line entry.Halt labels place s spelled h =
    let P : Step → Type 0 = IsStep names labels place in subst P (some-same step.Halt s h) tt

steps-formed : (names : Names) (lines : List Words) (entries : List Entry) (labels : List Label) (place : ℕ) (steps : List Step)
    → SpellEach (SpellsEntry names) lines entries → steps_from labels place entries ≡ Some steps → AreSteps names labels place steps
steps-formed names [] [] labels place steps e h =
    let P : List Step → Type 0 = AreSteps names labels place in subst P (some-same [] steps h) tt
steps-formed names (l ∷ lines) (entry.Label name ∷ entries) labels place steps e h = steps-formed names lines entries labels place steps e.1 h
steps-formed names (l ∷ lines) (e ∷ entries) labels place steps h made =
    let P : List Step → Type 0 = AreSteps names labels place in
    let (z, zs, one, others, all) = front-parts (step_in labels place e) (steps_from labels (place + 1) entries) steps made in
    subst P all (step-formed names l e labels place z h.0 one, steps-formed names lines entries labels (place + 1) zs h.1 others)
steps-formed names lines entries labels place steps e h = absurd e

-- ---- labels

labels-weaker : (steps a b : ℕ) (labels : List Label) → a ≤ b → AreLabels steps b labels → AreLabels steps a labels
labels-weaker steps a b [] le h = tt
labels-weaker steps a b (label ∷ labels) le (name, from, to, rest) = (name, omega (arith, from, le), to, rest)

labels-formed : (names : Names) (lines : List Words) (entries : List Entry) (steps place : ℕ) → SpellEach (SpellsEntry names) lines entries
    → steps ≡ place + step_total entries → AreLabels steps place (labels_from place entries)
unfolding step_total
labels-formed names [] [] steps place e h = tt
labels-formed names (l ∷ lines) (entry.Label name ∷ entries) steps place e h =
    (e.0.1, omega arith, omega (arith, h), labels-formed names lines entries steps place e.1 (omega (arith, h)))
labels-formed names (l ∷ lines) (e ∷ entries) steps place s h =
    labels-weaker steps place (place + 1) (labels_from (place + 1) entries) (omega arith)
    (labels-formed names lines entries steps (place + 1) s.1 (omega (arith, h)))
labels-formed names lines entries steps place e h = absurd e

-- ---- the whole

section-formed : (v : Version) (names : Names) (section : Actor) (budget : Words) (lines : List Words) (s : Section) → SpellsBudget section budget s.budget
    → SpellsSection v names lines s → IsSection names s
section-formed v names section budget lines s (r, y, e, n, m) p =
    let total = steps_count s.labels 0 p.entries s.steps p.steps in
    let few = p.few in
    let within = steps-within v in
    let P : List Label → Type 0 = AreLabels (length s.steps) 0 in
    record {
      requests = n.small;
      bytes = m.small;
      few = omega (arith, few, within);
      steps = steps-formed names lines p.entries s.labels 0 s.steps p.spelled p.steps;
      labels = subst P (sym p.labels) (labels-formed names lines p.entries (length s.steps) 0 p.spelled (omega (arith, total)));
      distinct = p.distinct;
    }

pub script-formed : (text : List ℕ) (s : Script) → SpellsScript text s → IsScript s
script-formed text s (v, h) =
    record {
      declared = h.declared;
      p = section-formed v s.names actor.P h.budgets.p h.bodies.p s.sections.p (h.allowed actor.P) (h.spelled actor.P);
      a = section-formed v s.names actor.A h.budgets.a h.bodies.a s.sections.a (h.allowed actor.A) (h.spelled actor.A);
      b = section-formed v s.names actor.B h.budgets.b h.bodies.b s.sections.b (h.allowed actor.B) (h.spelled actor.B);
    }
