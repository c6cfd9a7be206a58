-- What the assembler's functions make is the code of the script.
use Rattle.std.proofs.Common.{◌≡◌, ℕ, zero, suc, ◌+◌, ◌<◌, ◌≤◌, Bool, true, false, Option, Some, None, List, []}
use Rattle.std.proofs.Common.{◌∷◌, ◌++◌, map, length, take, refl, sym, ap, subst, ◌∙◌, if◌then◌else◌, arith}
use Rattle.std.proofs.Math.Seq.{take-append-add}
use Rattle.mc_protocol.specs.{Legal.is_legal, declared.actor.Actor.Actor, declared.reply.Class.Class, Lines.Word, Words.all_classes}
use Rattle.mc_protocol.specs.declared.actor.Actor.TheVariants as actor
use Rattle.mc_protocol.specs.declared.request.Verb.TheVariants as verb
use Rattle.mc_script.specs.WellFormed.{IsScript, AreLabels, is_number_class}
use Rattle.mc_script.specs.{declared.section.Label.Label, declared.step.Step.Step, declared.step.Template.Template, Script.Script, Script.section_of}
use Rattle.mc_script.specs.declared.step.Step.TheVariants as step
use Rattle.mc_code.specs.declared.instr.Instr.TheVariants as instr
use Rattle.mc_assembler.specs.Layout.{request_of, size_of, size_of_all, code_place, label_place, entry, entry_for}
use Rattle.mc_assembler.specs.Layout.{entries, bind_code, step_code, code_from, first_template, instructions_of}
use Rattle.mc_assembler.specs.Assembling.{cleared_keys, Places, place_in, places_from, label_places, places_of, onward_from, entry_by, legal_entry}
use Rattle.mc_assembler.specs.Assembling.{legal_entries, instructions_for, instructions_from, clearing_send, clearing_code}
use Rattle.mc_code.specs.{declared.limits.TheConstants.NO_ENTRY}
use Rattle.mc_assembler.specs.{ScriptRuns.clearing, ScriptRuns.clearing_steps, ScriptRuns.shift_label, ScriptRuns.jump_on}
use Rattle.mc_assembler.proofs.Fronts.{clearing-length}

map-same : {X Y : Type 0} (f g : X → Y) → ((x : X) → f x ≡ g x) → (xs : List X) → map f xs ≡ map g xs
map-same f g h [] = refl
map-same f g h (x ∷ xs) = rw (h x, map-same f g h xs) refl

-- ---- places

-- as many keys are cleared as steps stand in front
place-in-front : (key : ℕ) (keys : List Word) (steps : List Step) (j : ℕ) → j ≤ length keys
    → code_place (clearing_steps key keys ++ steps) j ≡ j
place-in-front key keys steps zero h = refl
place-in-front key [] steps (suc j) h = absurd (omega arith)
place-in-front key (_ ∷ keys) steps (suc j) h = omega (arith, place-in-front (key + 1) keys steps j (omega arith))

size-in-front : (key : ℕ) (keys : List Word) (steps : List Step) → size_of_all (clearing_steps key keys ++ steps) ≡ length keys + size_of_all steps
size-in-front key [] steps = omega arith
size-in-front key (_ ∷ keys) steps = omega (arith, size-in-front (key + 1) keys steps)

-- the places of the steps after the front
pub place-after : (key : ℕ) (keys : List Word) (steps : List Step) (p : ℕ)
    → code_place (clearing_steps key keys ++ steps) (length keys + p) ≡ length keys + code_place steps p
place-after key keys steps p =
    let n : length (clearing_steps key keys) ≡ length keys = clearing-length key keys in
    let P : ℕ → Type 0 = λ k. size_of_all (take (k + p) (clearing_steps key keys ++ steps)) ≡ length keys + code_place steps p in
    subst P n (ap size_of_all (take-append-add (clearing_steps key keys) steps p) ∙ size-in-front key keys (take p steps))

place-found : (first : ℕ) (steps : List Step) (p : ℕ) → p ≤ length steps → place_in (places_from first steps) p ≡ first + code_place steps p
place-found first [] zero h = omega arith
place-found first [] (suc p) h = absurd (omega arith)
place-found first (s ∷ steps) zero h = omega arith
place-found first (s ∷ steps) (suc p) h = omega (arith, place-found (first + size_of s) steps p (omega arith))

-- the same place in the whole section
pub same-place : (keys : List Word) (steps : List Step) (p : ℕ) → p ≤ length steps
    → code_place (clearing_steps 0 keys ++ steps) (length keys + p) ≡ place_in (places_from (length keys) steps) p
same-place keys steps p h = place-after 0 keys steps p ∙ sym (place-found (length keys) steps p h)

same-label : (keys : List Word) (steps : List Step) (least : ℕ) (labels : List Label) → AreLabels (length steps) least labels → (index : ℕ)
    → label_place (map (shift_label (length keys)) labels) (clearing_steps 0 keys ++ steps) index
    ≡ place_in (label_places (places_from (length keys) steps) labels) index
same-label keys steps least [] h index = refl
same-label keys steps least (label ∷ labels) h zero = same-place keys steps label.place h.2
same-label keys steps least (label ∷ labels) h (suc index) = same-label keys steps label.place labels h.3 index

-- ---- entries

either : (b : Bool) (n m : ℕ) → n ≡ m → n ≡ (if b then m else m)
either true n m h = h
either false n m h = h

number-or : (b : Bool) (n m k l : ℕ) → n ≡ k → m ≡ l → (if b then n else m) ≡ (if b then k else l)
number-or true n m k l f g = f
number-or false n m k l f g = g

-- what is known of the places of a section
record Stands (L : List Label) (S : List Step) (k : ℕ) (count : ℕ) (places : Places) : Type 0 where
  pub step : (p : ℕ) → p ≤ count → code_place S (k + p) ≡ place_in places.steps p
  pub label : (index : ℕ) → label_place L S index ≡ place_in places.labels index

next-place : {L : List Label} {S : List Step} {k count : ℕ} {places : Places} → Stands L S k count places → (p : ℕ) → p + 1 ≤ count
    → code_place S (k + p + 1) ≡ place_in places.steps (p + 1)
next-place {L} {S} {k} {count} {places} h p within =
    let e : k + (p + 1) ≡ k + p + 1 = omega arith in
    let P : ℕ → Type 0 = λ n. code_place S n ≡ place_in places.steps (p + 1) in
    subst P e (h.step (p + 1) within)

entry-led : {L : List Label} {S : List Step} {k count : ℕ} {places : Places} → Stands L S k count places → (p : ℕ) → p + 1 ≤ count
    → (bind : Option ℕ) (class : Class) (to : Option ℕ)
    → entry_for L S (k + p) bind class to ≡ entry_by places.labels (onward_from places.steps p bind) class to
entry-led h p within bind class (Some label) = h.label label
entry-led h p within None class None = either (is_number_class class) _ _ (next-place h p within)
entry-led {L} {S} {k} {count} {places} h p within (Some variable) class None =
    number-or (is_number_class class) _ _ _ _ (ap (λ n. n + 1) (h.step p (omega arith))) (next-place h p within)

entries-same : {L : List Label} {S : List Step} {k count : ℕ} {places : Places} → Stands L S k count places → (p : ℕ) → p + 1 ≤ count
    → (t : Template) (jumps : List (Class × ℕ)) (bind : Option ℕ)
    → entries L S (k + p) t jumps bind ≡ legal_entries places.labels t.verb jumps (onward_from places.steps p bind)
unfolding legal_entries
entries-same {L} {S} {k} {count} {places} h p within t jumps bind =
    map-same (entry L S (k + p) t jumps bind) (legal_entry places.labels t.verb jumps (onward_from places.steps p bind))
    (λ class. ap (λ n. if is_legal t.verb class then n else NO_ENTRY) (entry-led h p within bind class (jump_on class jumps))) all_classes

-- ---- instructions

step-same : {L : List Label} {S : List Step} {k count : ℕ} {places : Places} → Stands L S k count places → (p : ℕ) → p + 1 ≤ count
    → (template : ℕ) (s : Step) → step_code L S template (k + p) s ≡ instructions_for places template p s
step-same h p within template (step.Send t jumps bind) = ap (λ next. instr.Send template next ∷ bind_code bind) (entries-same h p within t jumps bind)
step-same h p within template (step.Bind variable) = refl
step-same h p within template (step.Goto label) = ap (λ place. instr.Goto place ∷ []) (h.label label)
step-same h p within template step.Halt = refl

steps-same : {L : List Label} {S : List Step} {k count : ℕ} {places : Places} → Stands L S k count places → (template p : ℕ) (rest : List Step)
    → p + length rest ≤ count → code_from L S template (k + p) rest ≡ instructions_from places template p rest
steps-same h template p [] within = refl
steps-same {L} {S} {k} {count} {places} h template p (s ∷ rest) within =
    let e : k + (p + 1) ≡ k + p + 1 = omega arith in
    let next = template + length (request_of s) in
    let P : ℕ → Type 0 = λ n. code_from L S next n rest ≡ instructions_from places next (p + 1) rest in
    rw (step-same h p (omega arith) template s, subst P e (steps-same h next (p + 1) rest (omega arith))) refl

-- ---- the front

clearing-same : (L : List Label) (S : List Step) (places : List ℕ) (key : ℕ) → code_place S (key + 1) ≡ key + 1
    → instr.Send key (entries L S key (clearing key) [] None) ≡ clearing_send places key
unfolding legal_entries
clearing-same L S places key h = ap (λ n. instr.Send key (map (λ class. if is_legal verb.Delete class then n else NO_ENTRY) all_classes)) h

front-same : (L : List Label) (S rest : List Step) (places : List ℕ) (key : ℕ) (keys : List Word)
    → ((j : ℕ) → j < key + length keys → code_place S (j + 1) ≡ j + 1)
    → code_from L S key key (clearing_steps key keys ++ rest) ≡ clearing_code places key keys ++ code_from L S (key + length keys) (key + length keys) rest
front-same L S rest places key [] h =
    let e : key ≡ key + 0 = omega arith in
    ap (λ n. code_from L S n n rest) e
front-same L S rest places key (word ∷ keys) h =
    let e : key + 1 + length keys ≡ key + length (word ∷ keys) = omega arith in
    let others = front-same L S rest places (key + 1) keys (λ j below. h j (omega arith)) in
    let P : ℕ → Type 0 = λ n. code_from L S (key + 1) (key + 1) (clearing_steps (key + 1) keys ++ rest)
    ≡ clearing_code places (key + 1) keys ++ code_from L S n n rest in
    rw (clearing-same L S places key (h key (omega arith)), subst P e others) refl

-- ---- a section

stands : (keys : List Word) (steps : List Step) (labels : List Label) → AreLabels (length steps) 0 labels
    → Stands (map (shift_label (length keys)) labels) (clearing_steps 0 keys ++ steps) (length keys) (length steps) (places_of (length keys) steps labels)
stands keys steps labels h = record { step = same-place keys steps; label = same-label keys steps 0 labels h }

laid : (keys : List Word) (steps : List Step) (labels : List Label) (first : ℕ) → AreLabels (length steps) 0 labels → first ≡ length keys
    → code_from (map (shift_label (length keys)) labels) (clearing_steps 0 keys ++ steps) 0 0 (clearing_steps 0 keys ++ steps)
    ≡ clearing_code (places_of (length keys) steps labels).labels 0 keys ++ instructions_from (places_of (length keys) steps labels) first 0 steps
laid keys steps labels first h e =
    let L = map (shift_label (length keys)) labels in
    let S = clearing_steps 0 keys ++ steps in
    let places = places_of (length keys) steps labels in
    let front = front-same L S steps places.labels 0 keys (λ j below. place-in-front 0 keys steps (j + 1) (omega arith)) in
    let zero-before : 0 + length keys ≡ length keys + 0 = omega arith in
    let at : code_from L S (0 + length keys) (0 + length keys) steps ≡ instructions_from places first 0 steps =
    rw (e) (subst (λ n. code_from L S n n steps ≡ instructions_from places (length keys) 0 steps) (sym zero-before)
    (subst (λ n. code_from L S n (length keys + 0) steps ≡ instructions_from places (length keys) 0 steps) (omega arith)
    (steps-same (stands keys steps labels h) (length keys) 0 steps (omega arith)))) in
    front ∙ ap (λ code. clearing_code places.labels 0 keys ++ code) at

-- a section that clears no key
laid-bare : (steps : List Step) (labels : List Label) (first : ℕ) → AreLabels (length steps) 0 labels
    → code_from (map (shift_label 0) labels) steps first 0 steps ≡ instructions_from (places_of 0 steps labels) first 0 steps
laid-bare steps labels first h = steps-same (stands [] steps labels h) first 0 steps (omega arith)

pub section-laid : (s : Script) (actor : Actor) → IsScript s → (first : ℕ) → first ≡ first_template s actor + length (cleared_keys s actor)
    → clearing_code (places_of (length (cleared_keys s actor)) (section_of s actor).steps (section_of s actor).labels).labels 0 (cleared_keys s actor)
    ++ instructions_from (places_of (length (cleared_keys s actor)) (section_of s actor).steps (section_of s actor).labels) first 0 (section_of s actor).steps
    ≡ instructions_of s actor
section-laid s actor.P h first e =
    let n : length (clearing_steps 0 s.names.keys) ≡ length s.names.keys = clearing-length 0 s.names.keys in
    let P : ℕ → Type 0 = λ k. clearing_code (places_of (length s.names.keys) s.sections.p.steps s.sections.p.labels).labels 0 s.names.keys
    ++ instructions_from (places_of (length s.names.keys) s.sections.p.steps s.sections.p.labels) first 0 s.sections.p.steps
    ≡ code_from (map (shift_label k) s.sections.p.labels) (clearing_steps 0 s.names.keys ++ s.sections.p.steps) 0 0
    (clearing_steps 0 s.names.keys ++ s.sections.p.steps) in
    subst P (sym n) (sym (laid s.names.keys s.sections.p.steps s.sections.p.labels first h.p.labels (omega (arith, e))))
section-laid s actor.A h first e =
    let same : first ≡ first_template s actor.A = omega (arith, e) in
    rw same (sym (laid-bare s.sections.a.steps s.sections.a.labels (first_template s actor.A) h.a.labels))
section-laid s actor.B h first e =
    let same : first ≡ first_template s actor.B = omega (arith, e) in
    rw same (sym (laid-bare s.sections.b.steps s.sections.b.labels (first_template s actor.B) h.b.labels))
