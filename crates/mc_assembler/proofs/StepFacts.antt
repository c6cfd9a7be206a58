-- What the code of a step does, where the step's labels and its template are there.
use Rattle.std.proofs.Common.{◌≡◌, ℕ, true, Option, Some, None, List, [], ◌∷◌, slice_get, refl, ap, ◌∙◌}
use Rattle.mc_protocol.specs.Legal.{class_of, is_legal, is_fit_for}
use Rattle.mc_protocol.specs.{declared.request.Verb.Verb, declared.reply.Class.Class, declared.reply.Reply.Reply}
use Rattle.mc_protocol.specs.declared.request.Verb.TheVariants as verb
use Rattle.mc_protocol.specs.declared.reply.Class.TheVariants as class
use Rattle.mc_protocol.specs.declared.reply.Reply.TheVariants as reply
use Rattle.mc_script.specs.declared.step.Template.{Template}
use Rattle.mc_script.specs.{declared.section.Label.Label, declared.step.Step.Step, WellFormed.shows_numbers, WellFormed.is_number_class}
use Rattle.mc_script.specs.declared.step.Step.TheVariants as step
use Rattle.mc_assembler.specs.Layout.{request_of, code_place, after_label, label_place, entry_for, entry, entries}
use Rattle.mc_assembler.specs.ScriptRuns.{jump_on, place_of_label, place_of, met_at_step}
use Rattle.mc_code.specs.{declared.instr.Instr.Instr, Paths.entry_of, Runs.met_by_send, Runs.met_at, States.State, States.is_number, States.shown_of}
use Rattle.mc_code.specs.declared.instr.Instr.TheVariants as instr
use Rattle.mc_code.proofs.LookUps.{some_is}
use Rattle.mc_assembler.proofs.StepCode.{number_at, code_of_all, first_of_step, after_steps}

abbrev pub HasLabel : List Label → ℕ → Type 0
HasLabel labels index = (label : Label) × (slice_get labels index ≡ Some label)

-- the reply that shows the variable's number goes on to the next step
abbrev pub Binds : Verb → List (Class × ℕ) → Option ℕ → Type 0
Binds verb jumps None = Unit {0}
Binds verb jumps (Some variable) =
    (shows_numbers verb ≡ true) × ((class : Class) → is_number_class class ≡ true → jump_on class jumps ≡ None)

abbrev pub IsFine : List Label → Step → Type 0
IsFine labels (step.Send t jumps bind) =
    ((class : Class) (index : ℕ) → jump_on class jumps ≡ Some index → HasLabel labels index) × Binds t.verb jumps bind
IsFine labels (step.Bind variable) = Unit {0}
IsFine labels (step.Goto label) = HasLabel labels label
IsFine labels step.Halt = Unit {0}

-- the labels of each step are there, and its request has its template
pub record IsLaid (labels : List Label) (steps : List Step) (templates : List Template) (first : ℕ) : Type 0 where
  pub fine : (p : ℕ) (s : Step) → slice_get steps p ≡ Some s → IsFine labels s
  pub named : (p : ℕ) (s : Step) (t : Template) → slice_get steps p ≡ Some s → request_of s ≡ t ∷ []
      → slice_get templates (number_at steps first p) ≡ Some t

-- ---- labels and entries

pub place_is : (labels : List Label) (steps : List Step) (index q : ℕ) → place_of labels index ≡ Some q
    → label_place labels steps index ≡ code_place steps q
place_is labels steps index q e = by_label (slice_get labels index) e
  where
    by_label : (o : Option Label) → place_of_label o ≡ Some q → after_label steps o ≡ code_place steps q
    by_label None e = absurd (cc)
    by_label (Some label) e = ap (code_place steps) (some_is label.place q e)

pub entry_at : (labels : List Label) (steps : List Step) (p : ℕ) (t : Template) (jumps : List (Class × ℕ)) (bind : Option ℕ) (c : Class)
    → entry_of (entries labels steps p t jumps bind) c ≡ entry labels steps p t jumps bind c
entry_at labels steps p t jumps bind class.Stored = refl
entry_at labels steps p t jumps bind class.NotStored = refl
entry_at labels steps p t jumps bind class.Exists = refl
entry_at labels steps p t jumps bind class.NotFound = refl
entry_at labels steps p t jumps bind class.Hit = refl
entry_at labels steps p t jumps bind class.Miss = refl
entry_at labels steps p t jumps bind class.Deleted = refl
entry_at labels steps p t jumps bind class.Touched = refl
entry_at labels steps p t jumps bind class.Number = refl
entry_at labels steps p t jumps bind class.NotNumber = refl

-- the entry of a class that the verb may be answered with
pub entry_is : (labels : List Label) (steps : List Step) (p : ℕ) (t : Template) (jumps : List (Class × ℕ)) (bind : Option ℕ) (c : Class)
    → is_legal t.verb c ≡ true → entry_of (entries labels steps p t jumps bind) c ≡ entry_for labels steps p bind c (jump_on c jumps)
entry_is labels steps p t jumps bind c legal = entry_at labels steps p t jumps bind c ∙ rw legal refl

-- ---- replies

-- a fit hit or count shows a number, where the verb's replies may show one
pub number_shown : (v : Verb) (key : ℕ) (r : Reply) → is_fit_for v r ≡ true → shows_numbers v ≡ true → is_number_class (class_of r) ≡ true
    → is_number (shown_of key r).0 ≡ true
number_shown v key (reply.Hit flags body (Some number)) fit shows class = refl
number_shown verb.Set key (reply.Hit flags body None) fit shows class = absurd (cc)
number_shown verb.Add key (reply.Hit flags body None) fit shows class = absurd (cc)
number_shown verb.Replace key (reply.Hit flags body None) fit shows class = absurd (cc)
number_shown verb.Append key (reply.Hit flags body None) fit shows class = absurd (cc)
number_shown verb.Prepend key (reply.Hit flags body None) fit shows class = absurd (cc)
number_shown verb.Cas key (reply.Hit flags body None) fit shows class = absurd (cc)
number_shown verb.Get key (reply.Hit flags body None) fit shows class = absurd (cc)
number_shown verb.Gets key (reply.Hit flags body None) fit shows class = absurd (cc)
number_shown verb.Incr key (reply.Hit flags body None) fit shows class = absurd (cc)
number_shown verb.Decr key (reply.Hit flags body None) fit shows class = absurd (cc)
number_shown verb.Delete key (reply.Hit flags body None) fit shows class = absurd (cc)
number_shown verb.Touch key (reply.Hit flags body None) fit shows class = absurd (cc)
number_shown v key (reply.Number number) fit shows class = refl
number_shown v key reply.Stored fit shows class = absurd (cc)
number_shown v key reply.NotStored fit shows class = absurd (cc)
number_shown v key reply.Exists fit shows class = absurd (cc)
number_shown v key reply.NotFound fit shows class = absurd (cc)
number_shown v key reply.Miss fit shows class = absurd (cc)
number_shown v key reply.Deleted fit shows class = absurd (cc)
number_shown v key reply.Touched fit shows class = absurd (cc)
number_shown v key reply.NotNumber fit shows class = absurd (cc)

-- ---- outcomes

-- the code of a step meets what the step meets
pub same_outcome : (labels : List Label) (steps : List Step) (templates : List Template) (first : ℕ) → IsLaid labels steps templates first
    → (p : ℕ) (st : State)
    → met_at templates (slice_get (code_of_all labels steps first) (code_place steps p)) st ≡ met_at_step (slice_get steps p) st
same_outcome labels steps templates first laid p st = by_step (slice_get steps p) refl
  where
    met : (i : Instr) → slice_get (code_of_all labels steps first) (code_place steps p) ≡ Some i
        → met_at templates (slice_get (code_of_all labels steps first) (code_place steps p)) st ≡ met_at templates (Some i) st
    met i at = ap (λ o. met_at templates o st) at

    by_step : (o : Option Step) → slice_get steps p ≡ o
        → met_at templates (slice_get (code_of_all labels steps first) (code_place steps p)) st ≡ met_at_step o st
    by_step None e = met instr.Halt (after_steps labels steps first p e)
    by_step (Some (step.Send t jumps bind)) e =
        let send = instr.Send (number_at steps first p) (entries labels steps p t jumps bind) in
        met send (first_of_step labels steps first p (step.Send t jumps bind) e send refl)
        ∙ ap (λ o. Some (met_by_send o st)) (laid.named p (step.Send t jumps bind) t e refl)
    by_step (Some (step.Bind v)) e = met (instr.Bind v) (first_of_step labels steps first p (step.Bind v) e (instr.Bind v) refl)
    by_step (Some (step.Goto label)) e =
        let goto = instr.Goto (label_place labels steps label) in
        met goto (first_of_step labels steps first p (step.Goto label) e goto refl)
    by_step (Some step.Halt) e = met instr.Halt (first_of_step labels steps first p step.Halt e instr.Halt refl)
