-- Runs of a script: the steps of a section, from reply to reply, after the requests that clear the keys.
use Rattle.std.specs.Prelude.{◌≡◌, ℕ, ◌+◌, ◌==◌, true, Option, Some, None, List, [], ◌∷◌, ◌++◌, map, length, slice_get, if◌then◌else◌}
use Rattle.mc_protocol.specs.{Legal.class_of, Legal.is_fit_for, declared.actor.Actor.Actor, declared.reply.Class.Class}
use Rattle.mc_protocol.specs.{declared.reply.Reply.Reply, Lines.Word, Words.class_index}
use Rattle.mc_protocol.specs.declared.actor.Actor.TheVariants as actor
use Rattle.mc_protocol.specs.declared.request.Verb.TheVariants as verb
use Rattle.mc_script.specs.{declared.section.Label.Label, declared.step.Step.Step, declared.step.Template.Template, Script.Script}
use Rattle.mc_script.specs.{Script.section_of, WellFormed.is_number_class}
use Rattle.mc_script.specs.declared.step.Argument.TheVariants as argument
use Rattle.mc_script.specs.declared.step.Step.TheVariants as step
use Rattle.mc_code.specs.Runs.{Exchange}
use Rattle.mc_code.specs.States.{Tagged, State, initial_state, after_reply, after_bind, Outcome, ended, send_outcome, bind_outcome}

-- ---- the requests that clear the keys

-- a delete of the key, without marks
abbrev pub clearing : ℕ → Template
clearing key = record {
  verb = verb.Delete;
  key = key;
  flags = 0;
  argument = argument.Nothing;
  body = [];
  require_set = 0;
  require_clear = 0;
  sets = 0;
  clears = 0;
}

-- a step for each key, from this one on
abbrev pub clearing_steps : ℕ → List Word → List Step
clearing_steps key [] = []
clearing_steps key (_ ∷ keys) = step.Send (clearing key) [] None ∷ clearing_steps (key + 1) keys

-- the steps that stand before those of the text: P clears every key
abbrev pub front_of : Script → Actor → List Step
front_of s actor.P = clearing_steps 0 s.names.keys
front_of s actor.A = []
front_of s actor.B = []

abbrev pub all_steps : Script → Actor → List Step
all_steps s actor = front_of s actor ++ (section_of s actor).steps

-- the label, with `count` more steps before it
abbrev pub shift_label : ℕ → Label → Label
shift_label count label = record { name = label.name; place = count + label.place }

abbrev pub all_labels : Script → Actor → List Label
all_labels s actor = map (shift_label (length (front_of s actor))) (section_of s actor).labels

-- ---- where a step leads

-- the label to which a reply of the class goes, if it goes to one
abbrev pub jump_on : Class → List (Class × ℕ) → Option ℕ
jump_on class [] = None
jump_on class (jump ∷ jumps) = if class_index class == class_index jump.0 then Some jump.1 else jump_on class jumps

abbrev pub place_of_label : Option Label → Option ℕ
place_of_label None = None
place_of_label (Some label) = Some label.place

-- the place of the label with this index
abbrev pub place_of : List Label → ℕ → Option ℕ
place_of labels index = place_of_label (slice_get labels index)

-- the place after the step, or the label's
abbrev pub next_of : List Label → ℕ → Option ℕ → Option ℕ
next_of labels p None = Some (p + 1)
next_of labels p (Some label) = place_of labels label

-- the variable of the request, if it binds one, takes the number of a hit or of a count
abbrev pub bind_reply : Option ℕ → Class → State → State
bind_reply None class st = st
bind_reply (Some variable) class st = if is_number_class class then after_bind variable st else st

-- ---- runs

-- these exchanges lead from one place and state to another
pub data IsScriptRun (labels : List Label) (steps : List Step) : ℕ → State → List Exchange → ℕ → State → Type 0 where
  rests : {p : ℕ} {st : State} → IsScriptRun labels steps p st [] p st
  binds : {p r variable : ℕ} {st st' : State} {exchanges : List Exchange} → slice_get steps p ≡ Some (step.Bind variable)
      → IsScriptRun labels steps (p + 1) (after_bind variable st) exchanges r st' → IsScriptRun labels steps p st exchanges r st'
  goes : {p q r label : ℕ} {st st' : State} {exchanges : List Exchange} → slice_get steps p ≡ Some (step.Goto label)
      → place_of labels label ≡ Some q → IsScriptRun labels steps q st exchanges r st' → IsScriptRun labels steps p st exchanges r st'
  sends : {p q r : ℕ} {st st' : State} {exchanges : List Exchange} {t : Template} {jumps : List (Class × ℕ)}
      {bind : Option ℕ} {reply : Reply}
      → slice_get steps p ≡ Some (step.Send t jumps bind) → is_fit_for t.verb reply ≡ true
      → next_of labels p (jump_on (class_of reply) jumps) ≡ Some q
      → IsScriptRun labels steps q (bind_reply bind (class_of reply) (after_reply t reply st)) exchanges r st'
      → IsScriptRun labels steps p st ((t, reply) ∷ exchanges) r st'

-- what the section comes to at a step, if anything; after its last step it is done
abbrev pub met_at_step : Option Step → State → Option Outcome
met_at_step None st = Some ended
met_at_step (Some (step.Send t jumps bind)) st = Some (send_outcome t st)
met_at_step (Some (step.Bind variable)) st = bind_outcome variable st
met_at_step (Some (step.Goto label)) st = None
met_at_step (Some step.Halt) st = Some ended

-- begun with these variables, the section of the script comes after these exchanges to this, in this state
abbrev pub ScriptComesTo : Script → Actor → List Tagged → List Exchange → State → Outcome → Type 0
ScriptComesTo s actor variables exchanges st outcome =
    (p : ℕ) × IsScriptRun (all_labels s actor) (all_steps s actor) 0 (initial_state variables) exchanges p st
    × (met_at_step (slice_get (all_steps s actor) p) st ≡ Some outcome)
