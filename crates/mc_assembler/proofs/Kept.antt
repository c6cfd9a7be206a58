-- The layout of a script keeps what code keeps, where the counts are within their limits.
use Rattle.std.proofs.Common.{◌≡◌, ℕ, zero, suc, ◌+◌, ◌<◌, ◌≤◌, Bool, true, false, Option, Some, None, List, [], ◌∷◌}
use Rattle.std.proofs.Common.{◌++◌, length, slice_get, refl, sym, subst, if◌then◌else◌, arith, length-append}
use Rattle.std.proofs.lemmas.List.Elements.{All-nil, All-cons, All-head, All-tail, All-append, All-map}
use Rattle.std.proofs.{lemmas.Grind.flat_map-append, lemmas.Nat.pow_pos}
use Rattle.std.specs.List.{All}
use Rattle.mc_protocol.specs.{Legal.is_legal, declared.actor.Actor.Actor, declared.reply.Class.Class, Lines.Word, Words.all_classes}
use Rattle.mc_protocol.specs.declared.actor.Actor.TheVariants as actor
use Rattle.mc_script.specs.declared.limits.TheConstants.{FLAGS_LIMIT, VARIABLES_LIMIT}
use Rattle.mc_script.specs.{declared.section.Label.Label, declared.step.Step.Step, declared.step.Template.Template, Script.Names, Script.Script}
use Rattle.mc_script.specs.{Script.section_of, Templates.IsTemplate, WellFormed.IsScript, WellFormed.IsStep, WellFormed.AreSteps, WellFormed.is_number_class}
use Rattle.mc_script.specs.declared.step.Step.TheVariants as step
use Rattle.mc_code.specs.declared.instr.Instr.TheVariants as instr
use Rattle.mc_code.specs.declared.limits.TheConstants.{TEMPLATES_LIMIT, INSTRUCTIONS_LIMIT}
use Rattle.mc_assembler.specs.ScriptRuns.{clearing, clearing_steps, front_of, all_steps, all_labels, jump_on}
use Rattle.mc_assembler.specs.Layout.{request_of, requests_of, templates_of, size_of, size_of_all, code_place, after_label}
use Rattle.mc_assembler.specs.Layout.{label_place, entry, entry_for, entries, bind_code, step_code, code_from, first_template}
use Rattle.mc_assembler.specs.{Agreement.Agrees, Layout.section_code, Layout.code_of, Layout.template_count, Layout.instruction_count}
use Rattle.mc_code.specs.Code as code
use Rattle.mc_assembler.proofs.{Agreeing.code_agrees, Bounds.section-kept, Bounds.declared-few, Rooms.section-within}

-- ---- places

pub place-below : (steps : List Step) (p : ℕ) → code_place steps p ≤ size_of_all steps
place-below steps zero = omega arith
place-below [] (suc p) = omega arith
place-below (s ∷ steps) (suc p) = omega (arith, place-below steps p)

after-below : (steps : List Step) (label : Option Label) → after_label steps label ≤ size_of_all steps
after-below steps None = omega arith
after-below steps (Some label) = place-below steps label.place

either-below : (b : Bool) (n m limit : ℕ) → n < limit → m < limit → (if b then n else m) < limit
either-below true n m limit f g = f
either-below false n m limit f g = g

led-below : (L : List Label) (S : List Step) (p : ℕ) (bind : Option ℕ) (class : Class) (to : Option ℕ) → size_of_all S < INSTRUCTIONS_LIMIT
    → code.is_byte (entry_for L S p bind class to)
led-below L S p bind class (Some label) h = omega (arith, after-below S (slice_get L label))
led-below L S p None class None h = omega (arith, place-below S (p + 1))
led-below L S p (Some variable) class None h =
    either-below (is_number_class class) _ _ 256 (omega (arith, place-below S p)) (omega (arith, place-below S (p + 1)))

entry-below : (L : List Label) (S : List Step) (p : ℕ) (t : Template) (jumps : List (Class × ℕ)) (bind : Option ℕ) → size_of_all S < INSTRUCTIONS_LIMIT
    → (class : Class) → code.is_byte (entry L S p t jumps bind class)
entry-below L S p t jumps bind h class =
    either-below (is_legal t.verb class) _ _ 256 (led-below L S p bind class (jump_on class jumps) h) (omega arith)

every : {X : Type 0} (P : X → Type 0) → ((x : X) → P x) → (xs : List X) → All P xs
every P h [] = All-nil P
every P h (x ∷ xs) = All-cons P x xs (h x) (every P h xs)

entries-below : (L : List Label) (S : List Step) (p : ℕ) (t : Template) (jumps : List (Class × ℕ)) (bind : Option ℕ) → size_of_all S < INSTRUCTIONS_LIMIT
    → All code.is_byte (entries L S p t jumps bind)
entries-below L S p t jumps bind h =
    All-map code.is_byte (entry L S p t jumps bind) all_classes
    (every (λ class. code.is_byte (entry L S p t jumps bind class)) (entry-below L S p t jumps bind h) all_classes)

-- ---- instructions

-- the variable that a step binds is a byte
abbrev BindsByte : Step → Type 0
BindsByte (step.Send t jumps None) = Unit {0}
BindsByte (step.Send t jumps (Some variable)) = variable < 256
BindsByte (step.Bind variable) = variable < 256
BindsByte (step.Goto label) = Unit {0}
BindsByte step.Halt = Unit {0}

step-kept : (L : List Label) (S : List Step) (template p : ℕ) (s : Step) → size_of_all S < INSTRUCTIONS_LIMIT
    → template + length (request_of s) ≤ TEMPLATES_LIMIT → BindsByte s → All code.IsInstr (step_code L S template p s)
step-kept L S template p (step.Send t jumps None) h room b =
    All-cons code.IsInstr _ [] (omega arith, refl, entries-below L S p t jumps None h) (All-nil code.IsInstr)
step-kept L S template p (step.Send t jumps (Some variable)) h room b =
    All-cons code.IsInstr _ (bind_code (Some variable)) (omega arith, refl, entries-below L S p t jumps (Some variable) h)
    (All-cons code.IsInstr (instr.Bind variable) [] b (All-nil code.IsInstr))
step-kept L S template p (step.Bind variable) h room b = All-cons code.IsInstr (instr.Bind variable) [] b (All-nil code.IsInstr)
step-kept L S template p (step.Goto label) h room b =
    All-cons code.IsInstr (instr.Goto (label_place L S label)) [] (omega (arith, after-below S (slice_get L label))) (All-nil code.IsInstr)
step-kept L S template p step.Halt h room b = All-cons code.IsInstr instr.Halt [] tt (All-nil code.IsInstr)

requests-cons : (s : Step) (rest : List Step) → length (requests_of (s ∷ rest)) ≡ length (request_of s) + length (requests_of rest)
requests-cons s rest = length-append (request_of s) (requests_of rest)

code-kept : (L : List Label) (S : List Step) (template p : ℕ) (rest : List Step) → size_of_all S < INSTRUCTIONS_LIMIT
    → template + length (requests_of rest) ≤ TEMPLATES_LIMIT → All BindsByte rest → All code.IsInstr (code_from L S template p rest)
code-kept L S template p [] h room b = All-cons code.IsInstr instr.Halt [] tt (All-nil code.IsInstr)
code-kept L S template p (s ∷ rest) h room b =
    All-append code.IsInstr (step_code L S template p s) (code_from L S (template + length (request_of s)) (p + 1) rest)
    (step-kept L S template p s h (omega (arith, requests-cons s rest)) (All-head BindsByte s rest b))
    (code-kept L S (template + length (request_of s)) (p + 1) rest h (omega (arith, requests-cons s rest)) (All-tail BindsByte s rest b))

step-length : (L : List Label) (S : List Step) (template p : ℕ) (s : Step) → length (step_code L S template p s) ≡ size_of s
step-length L S template p (step.Send t jumps None) = refl
step-length L S template p (step.Send t jumps (Some variable)) = refl
step-length L S template p (step.Bind variable) = refl
step-length L S template p (step.Goto label) = refl
step-length L S template p step.Halt = refl

pub code-length : (L : List Label) (S : List Step) (template p : ℕ) (rest : List Step) → length (code_from L S template p rest) ≡ size_of_all rest + 1
code-length L S template p [] = refl
code-length L S template p (s ∷ rest) =
    let more = code_from L S (template + length (request_of s)) (p + 1) rest in
    omega (
      arith,
      length-append (step_code L S template p s) more,
      step-length L S template p s,
      code-length L S (template + length (request_of s)) (p + 1) rest,
    )

-- ---- steps

step-binds : (names : Names) (L : List Label) (p : ℕ) (s : Step) → length names.vars ≤ VARIABLES_LIMIT → IsStep names L p s → BindsByte s
step-binds names L p (step.Send t jumps None) h is = tt
step-binds names L p (step.Send t jumps (Some variable)) h is = let below = is.2.0 in omega arith
step-binds names L p (step.Bind variable) h is = omega arith
step-binds names L p (step.Goto label) h is = tt
step-binds names L p step.Halt h is = tt

steps-bind : (names : Names) (L : List Label) (p : ℕ) (steps : List Step) → length names.vars ≤ VARIABLES_LIMIT → AreSteps names L p steps → All BindsByte steps
steps-bind names L p [] h are = All-nil BindsByte
steps-bind names L p (s ∷ steps) h are =
    All-cons BindsByte s steps (step-binds names L p s h are.0) (steps-bind names L (p + 1) steps h are.1)

clearing-binds : (key : ℕ) (keys : List Word) → All BindsByte (clearing_steps key keys)
clearing-binds key [] = All-nil BindsByte
clearing-binds key (_ ∷ keys) = All-cons BindsByte _ (clearing_steps (key + 1) keys) tt (clearing-binds (key + 1) keys)

front-binds : (s : Script) (actor : Actor) → All BindsByte (front_of s actor)
front-binds s actor.P = clearing-binds 0 s.names.keys
front-binds s actor.A = All-nil BindsByte
front-binds s actor.B = All-nil BindsByte

all-bind : (s : Script) (actor : Actor) → IsScript s → All BindsByte (all_steps s actor)
all-bind s actor h =
    All-append BindsByte (front_of s actor) (section_of s actor).steps (front-binds s actor)
    (steps-bind s.names (section_of s actor).labels 0 (section_of s actor).steps
    (declared-few (length s.names.vars) VARIABLES_LIMIT _ _ h.declared.vars) (section-kept s actor h).steps)

-- ---- templates

abbrev Fits : Names → Template → Type 0
Fits names t = IsTemplate (length names.keys) (length names.flags) (length names.vars) t

request-fits : (names : Names) (L : List Label) (p : ℕ) (s : Step) → IsStep names L p s → All (Fits names) (request_of s)
request-fits names L p (step.Send t jumps bind) is = All-cons (Fits names) t [] is.0 (All-nil (Fits names))
request-fits names L p (step.Bind variable) is = All-nil (Fits names)
request-fits names L p (step.Goto label) is = All-nil (Fits names)
request-fits names L p step.Halt is = All-nil (Fits names)

requests-fit : (names : Names) (L : List Label) (p : ℕ) (steps : List Step) → AreSteps names L p steps → All (Fits names) (requests_of steps)
requests-fit names L p [] are = All-nil (Fits names)
requests-fit names L p (s ∷ steps) are =
    All-append (Fits names) (request_of s) (requests_of steps) (request-fits names L p s are.0) (requests-fit names L (p + 1) steps are.1)

clearing-fits : (names : Names) (key : ℕ) → key < length names.keys → Fits names (clearing key)
clearing-fits names key h = record {
  key = h;
  fields = refl;
  require_set = pow_pos (length names.flags);
  require_clear = pow_pos (length names.flags);
  sets = pow_pos (length names.flags);
  clears = pow_pos (length names.flags);
  needs_apart = refl;
  changes_apart = refl;
}

clearings-fit : (names : Names) (key : ℕ) (keys : List Word) → key + length keys ≤ length names.keys → All (Fits names) (requests_of (clearing_steps key keys))
clearings-fit names key [] h = All-nil (Fits names)
clearings-fit names key (_ ∷ keys) h =
    All-cons (Fits names) (clearing key) (requests_of (clearing_steps (key + 1) keys)) (clearing-fits names key (omega arith))
    (clearings-fit names (key + 1) keys (omega arith))

front-fits : (s : Script) (actor : Actor) → All (Fits s.names) (requests_of (front_of s actor))
front-fits s actor.P = clearings-fit s.names 0 s.names.keys (omega arith)
front-fits s actor.A = All-nil (Fits s.names)
front-fits s actor.B = All-nil (Fits s.names)

section-fits : (s : Script) (actor : Actor) → IsScript s → All (Fits s.names) (requests_of (all_steps s actor))
section-fits s actor h =
    subst (All (Fits s.names)) (sym (flat_map-append request_of (front_of s actor) (section_of s actor).steps))
    (All-append (Fits s.names) (requests_of (front_of s actor)) (requests_of (section_of s actor).steps) (front-fits s actor)
    (requests-fit s.names (section_of s actor).labels 0 (section_of s actor).steps (section-kept s actor h).steps))

templates-fit : (s : Script) → IsScript s → All (Fits s.names) (templates_of s)
templates-fit s h =
    let p = requests_of (all_steps s actor.P) in
    let a = requests_of (all_steps s actor.A) in
    let b = requests_of (all_steps s actor.B) in
    All-append (Fits s.names) (p ++ a) b (All-append (Fits s.names) p a (section-fits s actor.P h) (section-fits s actor.A h)) (section-fits s actor.B h)

-- ---- the whole code

section-code : (s : Script) (actor : Actor) → IsScript s → template_count s ≤ TEMPLATES_LIMIT → instruction_count s actor ≤ INSTRUCTIONS_LIMIT
    → code.IsSection (section_code s actor)
section-code s actor h templates instructions = record {
  requests = (section-kept s actor h).requests;
  bytes = (section-kept s actor h).bytes;
  few = omega (arith, code-length (all_labels s actor) (all_steps s actor) (first_template s actor) 0 (all_steps s actor));
  instructions =
      code-kept (all_labels s actor) (all_steps s actor) (first_template s actor) 0 (all_steps s actor) (omega arith)
      (omega (arith, section-within s actor)) (all-bind s actor h);
}

pub code-of-script : (s : Script) → IsScript s → template_count s ≤ TEMPLATES_LIMIT → ((actor : Actor) → instruction_count s actor ≤ INSTRUCTIONS_LIMIT)
    → code.IsCode (code_of s)
code-of-script s h templates instructions = record {
  some_key = h.declared.some;
  keys = h.declared.keys;
  flags = declared-few (length s.names.flags) FLAGS_LIMIT _ _ h.declared.flags;
  vars = declared-few (length s.names.vars) VARIABLES_LIMIT _ _ h.declared.vars;
  few = templates;
  templates = templates-fit s h;
  sections = each;
}
  where
    each : (actor : Actor) → code.IsSection (code.section_of (code_of s) actor)
    each actor.P = section-code s actor.P h templates (instructions actor.P)
    each actor.A = section-code s actor.A h templates (instructions actor.A)
    each actor.B = section-code s actor.B h templates (instructions actor.B)

-- the same of what is made of equal parts
pub parts-kept : (s : Script) (keys : List Word) (flags vars : ℕ) (templates : List Template) (p a b : code.Section)
    → keys ≡ s.names.keys → flags ≡ length s.names.flags → vars ≡ length s.names.vars → templates ≡ templates_of s
    → p ≡ section_code s actor.P → a ≡ section_code s actor.A → b ≡ section_code s actor.B
    → IsScript s → template_count s ≤ TEMPLATES_LIMIT → ((actor : Actor) → instruction_count s actor ≤ INSTRUCTIONS_LIMIT)
    → code.IsCode (record { keys = keys; flags = flags; vars = vars; templates = templates; sections = record { p = p; a = a; b = b } })
parts-kept s keys flags vars templates p a b k f v t ep ea eb h few instructions =
    rw (k, f, v, t, ep, ea, eb) (code-of-script s h few instructions)

pub parts-agree : (s : Script) (keys : List Word) (flags vars : ℕ) (templates : List Template) (p a b : code.Section)
    → keys ≡ s.names.keys → flags ≡ length s.names.flags → vars ≡ length s.names.vars → templates ≡ templates_of s
    → p ≡ section_code s actor.P → a ≡ section_code s actor.A → b ≡ section_code s actor.B → IsScript s
    → Agrees s (record { keys = keys; flags = flags; vars = vars; templates = templates; sections = record { p = p; a = a; b = b } })
parts-agree s keys flags vars templates p a b k f v t ep ea eb h = rw (k, f, v, t, ep, ea, eb) (code_agrees s h)
