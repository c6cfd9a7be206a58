-- Scripts and code under a name keep the limits of scripts and of code, and the code of the one is the other.
use Rattle.std.proofs.Common.{◌≡◌, ℕ, ◌+◌, ◌*◌, ◌≤◌, true, Some, None, List, [], ◌∷◌, length, refl, sym, ap, subst, ◌∙◌}
use Rattle.std.proofs.{lemmas.Option.slice_get-map, Math.Nat.min-le_left}
use Rattle.std.specs.{Prelude.Option, Option.option_map, List.All}
use Rattle.mc_protocol.specs.declared.limits.TheConstants.{REQUEST_BYTES_LIMIT}
use Rattle.mc_protocol.specs.{Lines.Word, declared.actor.Actor.Actor, declared.request.Verb.Verb, declared.reply.Class.Class}
use Rattle.mc_protocol.specs.declared.actor.Actor.TheVariants as actor
use Rattle.mc_script.specs.{declared.section.Budget.Budget, declared.section.Label.Label, declared.step.Step.Step, Templates.IsTemplate}
use Rattle.mc_script.specs.declared.step.Step.TheVariants as step
use Rattle.mc_script.specs.Script as script
use Rattle.mc_script.specs.WellFormed as formed
use Rattle.mc_code.specs.Code as code
use Rattle.mc_assembler.specs.ScriptRuns.{clearing_steps}
use Rattle.mc_generate.specs.CodesUnder.{CodesFollowScripts, ScriptsStayScripts, RequestsDifferByKeys}
use Rattle.mc_generate.specs.CodesUnder.{keys_under, budget_under, section_under, code_section_under, code_under}
use Rattle.mc_generate.specs.{CodesUnder.added_bytes, CodesUnder.request_under, ImageFronts.IsSmall}
use Rattle.mc_settings.specs.{Namespaces.is_namespace, Namespaces.key_under, Namespaces.AreShort}
use Rattle.mc_generate.proofs.KeysUnder.{count-under, some-key-under, declared-under}

pub few-bytes : (name : Word) (budget : Budget) → (budget_under name budget).bytes ≤ REQUEST_BYTES_LIMIT
few-bytes name budget = min-le_left REQUEST_BYTES_LIMIT (budget.bytes + added_bytes name * budget.requests)

-- ---- code

section-stays : (name : Word) (s : code.Section) → code.IsSection s → code.IsSection (code_section_under name s)
section-stays name s is = record { requests = is.requests; bytes = few-bytes name s.budget; few = is.few; instructions = is.instructions }

sections-stay : (name : Word) (c : code.Code) → code.IsCode c → (actor : Actor) → code.IsSection (code.section_of (code_under name c) actor)
sections-stay name c is actor.P = section-stays name c.sections.p (is.sections actor.P)
sections-stay name c is actor.A = section-stays name c.sections.a (is.sections actor.A)
sections-stay name c is actor.B = section-stays name c.sections.b (is.sections actor.B)

pub code-stays : (name : Word) (c : code.Code) → is_namespace name ≡ true → code.IsCode c → AreShort name c.keys → code.IsCode (code_under name c)
code-stays name c named is short = record {
  some_key = some-key-under name c.keys is.some_key;
  keys = declared-under name c.keys named is.keys short;
  flags = is.flags;
  vars = is.vars;
  few = is.few;
  templates = subst (λ n. All (IsTemplate n c.flags c.vars) c.templates) (sym (count-under name c.keys)) is.templates;
  sections = sections-stay name c is;
}

pub budget-small : (c : code.Code) → code.IsCode c → (actor : Actor) (b : Budget) → b ≡ (code.section_of c actor).budget → IsSmall b
budget-small c is actor b e = rw e (record { requests = (is.sections actor).requests; bytes = (is.sections actor).bytes })

-- ---- scripts

binds-stay : (name : Word) (names : script.Names) (verb : Verb) (jumps : List (Class × ℕ)) (bind : Option ℕ) → formed.MayBind names verb jumps bind
    → formed.MayBind (record names { keys = keys_under name names.keys }) verb jumps bind
binds-stay name names verb jumps None h = tt
binds-stay name names verb jumps (Some variable) h = h

step-stays : (name : Word) (names : script.Names) (labels : List Label) (place : ℕ) (s : Step) → formed.IsStep names labels place s
    → formed.IsStep (record names { keys = keys_under name names.keys }) labels place s
step-stays name names labels place (step.Send t jumps bind) (template, others, may) = (
  subst (λ n. IsTemplate n (length names.flags) (length names.vars) t) (sym (count-under name names.keys)) template,
  others,
  binds-stay name names t.verb jumps bind may,
)
step-stays name names labels place (step.Bind variable) h = h
step-stays name names labels place (step.Goto label) h = h
step-stays name names labels place step.Halt h = tt

steps-stay : (name : Word) (names : script.Names) (labels : List Label) (place : ℕ) (steps : List Step) → formed.AreSteps names labels place steps
    → formed.AreSteps (record names { keys = keys_under name names.keys }) labels place steps
steps-stay name names labels place [] h = tt
steps-stay name names labels place (s ∷ steps) h = (step-stays name names labels place s h.0, steps-stay name names labels (place + 1) steps h.1)

script-section-stays : (name : Word) (names : script.Names) (s : script.Section) → formed.IsSection names s
    → formed.IsSection (record names { keys = keys_under name names.keys }) (section_under name s)
script-section-stays name names s is = record {
  requests = is.requests;
  bytes = few-bytes name s.budget;
  few = is.few;
  steps = steps-stay name names s.labels 0 s.steps is.steps;
  labels = is.labels;
  distinct = is.distinct;
}

pub scripts-stay : ScriptsStayScripts
scripts-stay name s is named short = record {
  declared = record {
    some = some-key-under name s.names.keys is.declared.some;
    keys = declared-under name s.names.keys named is.declared.keys short;
    flags = is.declared.flags;
    vars = is.declared.vars;
  };
  p = script-section-stays name s.names s.sections.p is.p;
  a = script-section-stays name s.names s.sections.a is.a;
  b = script-section-stays name s.names s.sections.b is.b;
}

-- ---- the code of scripts

-- P clears as many keys
clears-alike : (name : Word) (key : ℕ) (keys : List Word) → clearing_steps key (keys_under name keys) ≡ clearing_steps key keys
clears-alike name key [] = refl
clears-alike name key (_ ∷ keys) = rw (clears-alike name (key + 1) keys) refl

pub codes-follow : CodesFollowScripts
codes-follow name s = rw (clears-alike name 0 s.names.keys) refl

-- ---- requests

pub requests-differ : RequestsDifferByKeys
requests-differ name c call request is = record {
  template = is.template;
  key = key_under name is.key;
  named = is.named;
  declared = slice_get-map (key_under name) c.keys is.template.key ∙ ap (option_map (key_under name)) is.declared;
  request_is = ap (request_under name) is.request_is;
}
