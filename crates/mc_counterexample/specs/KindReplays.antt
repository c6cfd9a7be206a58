-- What of a run that shows a fault of variables is still to come. Private contracts cite it.
use Rattle.std.specs.Prelude.{◌≡◌, ℕ, Bool, true, false, Some, List, [], ◌++◌, map, take, slice_get, if◌then◌else◌}
use Rattle.mc_protocol.specs.{declared.actor.Actor.Actor, declared.reply.Class.Class}
use Rattle.mc_protocol.specs.declared.actor.Actor.TheVariants as actor
use Rattle.mc_script.specs.declared.step.Template.{Template}
use Rattle.mc_code.specs.{Code.Code, Code.instructions_in, Paths.Slides, Paths.Sends, RunLaws.edges_of, Runs.Exchange, Runs.after_slide}
use Rattle.mc_code.specs.{Runs.IsRun, Standing.StandsAt, Standing.BeginsAfter, Standing.met_in, States.Tagged, States.State}
use Rattle.mc_code.specs.{States.initial_state, declared.instr.Instr.Instr, declared.kind.Kind.Kind}
use Rattle.mc_code.specs.declared.instr.Instr.TheVariants as instr
use Rattle.mc_flow.specs.RunKinds.{shown_by}
use Rattle.mc_sound.specs.{Interleavings.Stage, Interleavings.staged, declared.refusal_kind.RefusalKind.RefusalKind}
use Rattle.mc_verify.specs.{Shown.replies_along, Shown.front, VariableFaults.is_outcome}
use Rattle.mc_counterexample.specs.{declared.kind_replay.KindReplay.KindReplay, declared.knowledge.Knowledge.Knowledge}

-- ---- what a section knows

-- a number of the kind: which one it is makes no difference to a fault
abbrev pub number_of : Kind → Tagged
number_of kind = (kind, 0)

-- a state in which the code's variables, and the number that was shown last, are of these kinds
abbrev pub state_of : Code → Knowledge → State
state_of c known = record {
  variables = map number_of (take c.vars known.variables);
  last = number_of known.last;
}

-- the state after a reply of the class to the template
abbrev pub after_class : Template → Class → State → State
after_class t class st = record { variables = st.variables; last = number_of (shown_by t class) }

-- ---- how a run goes on

-- the section that is on its way: P, until the named one has begun
abbrev pub section_in : Bool → Actor → Actor
section_in begun named = if begun then named else actor.P

-- the instruction at the place leads to the other place and state without a reply
pub record IsSlid (c : Code) (actor : Actor) (from : ℕ) (st : State) (other : ℕ) (after : State) : Type 0 where
  pub i : Instr
  pub at : slice_get (instructions_in c actor) from ≡ Some i
  pub leads : Slides i from other
  pub after_is : after ≡ after_slide i st

-- from the place and the state the section comes to a send of the template without a reply, and one of the class leads on to the
-- other place and state
pub record IsReplied (c : Code) (actor : Actor) (from : ℕ) (st : State) (t : Template) (class : Class) (other : ℕ) (after : State)
    : Type 0 where
  pub sent_at : ℕ
  pub before : State
  pub i : Instr
  pub slid : IsRun c.templates (instructions_in c actor) from st [] sent_at before
  pub at : slice_get (instructions_in c actor) sent_at ≡ Some i
  pub leads : Sends c.templates i t class other
  pub after_is : after ≡ after_class t class before

-- from the place and the state P comes to its end without a reply, and a branch then begins in the other state
pub record IsEnded (c : Code) (from : ℕ) (st after : State) : Type 0 where
  pub halt : ℕ
  pub end : State
  pub slid : IsRun c.templates (instructions_in c actor.P) from st [] halt end
  pub halts : slice_get (instructions_in c actor.P) halt ≡ Some instr.Halt
  pub after_is : after ≡ initial_state end.variables

-- ---- what is left of a run

-- along this interleaving some run comes to a fault of the kind at the place
pub record FailsAlong (c : Code) (kind : RefusalKind) (actor : Actor) (place : ℕ) (interleaving : List Stage) : Type 0 where
  pub before : List Exchange
  pub variables : List Tagged
  pub exchanges : List Exchange
  pub st : State
  pub begins : BeginsAfter c before actor variables
  pub stands : StandsAt c actor variables exchanges place st
  pub fails : is_outcome kind (met_in c actor place st) ≡ true
  pub interleaving_is : interleaving ≡ front actor (edges_of before) ++ staged actor (edges_of exchanges)

-- these replies show it
abbrev pub ShowsFail : Code → RefusalKind → Actor → ℕ → List (Actor × Class) → Type 0
ShowsFail c kind actor place shown = (interleaving : List Stage) × (shown ≡ replies_along interleaving)
    × FailsAlong c kind actor place interleaving

-- from the place and the state the section comes by these replies to a fault of the kind at the other place
pub record FailsOn (c : Code) (kind : RefusalKind) (actor : Actor) (place from : ℕ) (st : State) (shown : List (Actor × Class))
    : Type 0 where
  pub exchanges : List Exchange
  pub end : State
  pub run : IsRun c.templates (instructions_in c actor) from st exchanges place end
  pub fails : is_outcome kind (met_in c actor place end) ≡ true
  pub shown_is : shown ≡ replies_along (staged actor (edges_of exchanges))

-- from the place and the state P comes by the first of these replies to its end, and then the branch by the others to the fault
pub record FailsBehind (c : Code) (kind : RefusalKind) (named : Actor) (place from : ℕ) (st : State) (shown : List (Actor × Class))
    : Type 0 where
  pub before : List Exchange
  pub halt : ℕ
  pub end : State
  pub rest : List (Actor × Class)
  pub run : IsRun c.templates (instructions_in c actor.P) from st before halt end
  pub halts : slice_get (instructions_in c actor.P) halt ≡ Some instr.Halt
  pub fails : FailsOn c kind named place 0 (initial_state end.variables) rest
  pub shown_is : shown ≡ replies_along (staged actor.P (edges_of before)) ++ rest

-- the first where the named section has begun, and the second where P is on its way
abbrev pub FailsWhere : Bool → Code → RefusalKind → Actor → ℕ → ℕ → State → List (Actor × Class) → Type 0
FailsWhere true c kind actor place from st shown = FailsOn c kind actor place from st shown
FailsWhere false c kind actor place from st shown = FailsBehind c kind actor place from st shown

-- from the replay on, these replies show a fault of the kind
abbrev pub FailsFrom : Code → RefusalKind → Actor → ℕ → KindReplay → List (Actor × Class) → Type 0
FailsFrom c kind actor place replay shown = FailsWhere replay.begun c kind actor place replay.place (state_of c replay.known) shown
