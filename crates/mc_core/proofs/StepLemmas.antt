-- Steps keep worlds right, and lead to one world.
use Rattle.std.proofs.Common.{◌≡◌, ◌≢◌, ◌⊎◌, inl, inr, false, Option, Some, None, List, [], ◌∷◌, ◌++◌, refl, ap, sym, subst, ◌∙◌}
use Rattle.std.proofs.lemmas.Bool.{true_from_ne_false}
use Rattle.mc_protocol.specs.{Legal.is_fit_for, declared.actor.Actor.Actor, declared.event.Event.Event}
use Rattle.mc_protocol.specs.declared.actor.Actor.TheVariants as actor
use Rattle.mc_protocol.specs.declared.event.Event.TheVariants as event
use Rattle.mc_code.specs.Standing.{BeginsAfter, ComesTo, Leaves, no_variables}
use Rattle.mc_code.specs.{Calls.IsCalling, Calls.template_of, Code.Code, Runs.Exchange, States.Tagged, States.ended, declared.instr.Call.Call}
use Rattle.mc_code.proofs.{LookUps.some_is, StandingLemmas.leaves_once, StandingLemmas.calls_once}
use Rattle.mc_model.specs.Notes.{is_same_section}
use Rattle.mc_core.specs.Logs.{Log, new_log, events_in, with_call, with_reply, with_fault, IsRightLog}
use Rattle.mc_core.specs.Worlds.{World, log_of, with_note, exchanges_of, BeginsIn, IsBegun, IsDone}
use Rattle.mc_core.specs.{declared.step_refusal.StepRefusal.StepRefusal, Steps.IsRefused, Steps.IsNext, Steps.Follows, Steps.IsStep}
use Rattle.mc_core.specs.declared.step_refusal.StepRefusal.TheVariants as refusal
use Rattle.mc_core.proofs.LogLemmas.{own_log, each_section, new_is_right, call_is_right, reply_is_right, fault_is_right, events_with_call}
use Rattle.mc_core.proofs.LogLemmas.{events_with_reply, events_with_fault}

-- ---- variables

-- a section begins with one list of variables
pub begins_once : (c : Code) (before : List Exchange) (who : Actor) (variables others : List Tagged) → BeginsAfter c before who variables
    → BeginsAfter c before who others → variables ≡ others
begins_once c before actor.P variables others x y = x ∙ sym y
begins_once c before _ variables others x y = leaves_once c before variables others x y

-- P that is done leaves variables
pub done_leaves : (c : Code) (w : World) → IsDone c w actor.P → (variables : List Tagged) × Leaves c (exchanges_of c w actor.P) variables
done_leaves c w done =
    let over = done.2 in
    let st = over.1 in
    (st.variables, (st, subst (λ vs. ComesTo c actor.P vs (exchanges_of c w actor.P) st ended) over.2 over.3, refl))

-- each section that has begun has variables
pub begun_begins : (c : Code) (w : World) (who : Actor) → IsBegun c w who → (variables : List Tagged) × BeginsIn c w who variables
begun_begins c w actor.P begun = (no_variables c, refl)
begun_begins c w _ begun = done_leaves c w begun

-- ---- right worlds

-- the section has begun, and its log is right
pub record IsRightIn (c : Code) (w : World) (who : Actor) : Type 0 where
  pub begun : IsBegun c w who
  pub variables : List Tagged
  pub begins : BeginsIn c w who variables
  pub right : IsRightLog c who variables (log_of w who)

-- nothing happened in the section, or its log is right
abbrev pub MayBeRight : Code → World → Actor → Type 0
MayBeRight c w who = (log_of w who ≡ new_log) ⊎ IsRightIn c w who

abbrev pub IsRight : Code → World → Type 0
IsRight c w = (who : Actor) → MayBeRight c w who

-- a section that has begun has a right log
pub begun_is_right : (c : Code) (w : World) (who : Actor) → MayBeRight c w who → IsBegun c w who → IsRightIn c w who
begun_is_right c w who (inl new) begun =
    let begins = begun_begins c w who begun in record {
      begun = begun;
      variables = begins.0;
      begins = begins.1;
      right = subst (IsRightLog c who begins.0) (sym new) (new_is_right c who begins.0);
    }
begun_is_right c w who (inr right) begun = right

-- ---- the log after an event

pub none_is : {X : Type 0} (o : Option X) → ((x : X) → o ≡ Some x → ⊥) → o ≡ None
none_is None not = refl
none_is (Some x) not = absurd (not x refl)

faultless : (c : Code) (w : World) (who : Actor) (e : Event) (new : World) → IsStep c w who e new → (log_of w who).fault ≡ None
faultless c w who e new step = none_is (log_of w who).fault (λ fault is. step.free refusal.Over (inl (fault, is)))

-- the section's log after the event is right, and has it as its last
pub record Grows (c : Code) (w : World) (who : Actor) (e : Event) (new : World) : Type 0 where
  pub log : Log
  pub right : (variables : List Tagged) → BeginsIn c w who variables → IsRightLog c who variables (log_of w who)
      → IsRightLog c who variables log
  pub events : events_in log ≡ events_in (log_of w who) ++ e ∷ []
  pub new_is : new ≡ with_note w who e log

pub step_grows : (c : Code) (w : World) (who : Actor) (e : Event) (new : World) → IsStep c w who e new → Grows c w who e new
step_grows c w who event.Begin new step =
    let follows : Follows c w who event.Begin new = step.follows in
    let made = follows.0 in
    let next = follows.1 in record {
      log = with_call (log_of w who) made;
      right = λ variables begins right.
          let same = begins_once c (exchanges_of c w actor.P) who next.0 variables next.1 begins in
          call_is_right c who variables (log_of w who) made right
          (subst (λ vs. IsCalling c who vs (exchanges_of c w who) made) same next.2);
      events =
          events_with_call (log_of w who) made (none_is (log_of w who).waiting (λ made waits. step.free refusal.Waiting (made, waits)))
          (faultless c w who event.Begin new step);
      new_is = follows.2;
    }
step_grows c w who (event.Reply reply) new step =
    let follows : Follows c w who (event.Reply reply) new = step.follows in
    let made = follows.0 in
    let fit = true_from_ne_false (is_fit_for (template_of c made).verb reply) (λ wrong. step.free refusal.WrongReply (made, follows.1, wrong)) in record {
      log = with_reply (log_of w who) made reply;
      right = λ variables begins right. reply_is_right c who variables (log_of w who) made reply right follows.1 fit;
      events = events_with_reply (log_of w who) made reply follows.1 (faultless c w who (event.Reply reply) new step);
      new_is = follows.2;
    }
step_grows c w who (event.Fail fault) new step = record {
  log = with_fault (log_of w who) fault;
  right = λ variables begins right. fault_is_right c who variables (log_of w who) fault right;
  events = events_with_fault (log_of w who) fault (faultless c w who (event.Fail fault) new step);
  new_is = step.follows;
}

-- ---- the world after an event

-- nothing has happened in a section that hasn't begun
pub still_new : (c : Code) (w : World) (who : Actor) → MayBeRight c w who → (IsBegun c w who → ⊥) → log_of w who ≡ new_log
still_new c w who (inl new) never = new
still_new c w who (inr right) never = absurd (never right.begun)

-- what holds of a section in one world holds of it in the other
pub record AsBefore (c : Code) (w v : World) (who : Actor) : Type 0 where
  pub log_is : log_of v who ≡ log_of w who
  pub begun : IsBegun c w who → IsBegun c v who
  pub back : IsBegun c v who → IsBegun c w who
  pub done : IsDone c w who → IsDone c v who
  pub not_done : IsDone c v who → IsDone c w who
  pub begins : (variables : List Tagged) → BeginsIn c w who variables → BeginsIn c v who variables

-- an event of a branch leaves the other sections as they were
pub as_before : (c : Code) (w : World) (who : Actor) (e : Event) (log : Log) → who ≢ actor.P → (o : Actor) → is_same_section o who ≡ false
    → AsBefore c w (with_note w who e log) o
as_before c w actor.P e log branch o other = absurd (branch refl)
as_before c w actor.A e log branch actor.A other = absurd (cc)
as_before c w actor.B e log branch actor.B other = absurd (cc)
as_before c w _ e log branch _ other =
    record { log_is = refl; begun = λ b. b; back = λ b. b; done = λ d. d; not_done = λ d. d; begins = λ vs b. b }

-- a section begins as before its own event
pub begins_still : (c : Code) (w : World) (who : Actor) (e : Event) (log : Log) (variables : List Tagged) → BeginsIn c w who variables
    → BeginsIn c (with_note w who e log) who variables
begins_still c w actor.P e log variables begins = begins
begins_still c w _ e log variables begins = begins

pub begun_still : (c : Code) (w : World) (who : Actor) (e : Event) (log : Log) → IsBegun c w who → IsBegun c (with_note w who e log) who
begun_still c w actor.P e log begun = begun
begun_still c w _ e log begun = begun

right_still : (c : Code) (w v : World) (who : Actor) → AsBefore c w v who → MayBeRight c w who → MayBeRight c v who
right_still c w v who same (inl new) = inl (same.log_is ∙ new)
right_still c w v who same (inr right) = inr (record {
  begun = same.begun right.begun;
  variables = right.variables;
  begins = same.begins right.variables right.begins;
  right = subst (IsRightLog c who right.variables) (sym same.log_is) right.right;
})

others_right : (c : Code) (w : World) (who : Actor) (e : Event) (log : Log) → IsRight c w → (IsDone c w who → ⊥) → (o : Actor)
    → is_same_section o who ≡ false → MayBeRight c (with_note w who e log) o
others_right c w actor.P e log right goes_on actor.P other = absurd (cc)
others_right c w actor.P e log right goes_on o other = inl (still_new c w o (right o) goes_on)
others_right c w who e log right goes_on o other =
    right_still c w (with_note w who e log) o (as_before c w who e log (λ e. cc) o other) (right o)

pub step_right : (c : Code) (w : World) (who : Actor) (e : Event) (new : World) → IsRight c w → IsStep c w who e new → IsRight c new
step_right c w who e new right step =
    let grows = step_grows c w who e new step in
    let v = with_note w who e grows.log in
    let before = begun_is_right c w who (right who) step.begun in
    let own : IsRightIn c v who = record {
      begun = begun_still c w who e grows.log step.begun;
      variables = before.variables;
      begins = begins_still c w who e grows.log before.variables before.begins;
      right =
          subst (IsRightLog c who before.variables) (sym (own_log w who e grows.log)) (grows.right before.variables before.begins before.right);
    } in
    let goes_on : IsDone c w who → ⊥ = λ done. step.free refusal.Over (inr done) in
    subst (IsRight c) (sym grows.new_is)
    (each_section (λ o log. MayBeRight c v o) w.logs who grows.log (inr own) (others_right c w who e grows.log right goes_on))

-- ---- one world

pub next_once : (c : Code) (w : World) (who : Actor) (made other : Call) → IsNext c w who made → IsNext c w who other → made ≡ other
next_once c w who made other (variables, begins, calling) (others, begins', calling') =
    let same = begins_once c (exchanges_of c w actor.P) who variables others begins begins' in
    calls_once c who others (exchanges_of c w who) made other
    (subst (λ vs. IsCalling c who vs (exchanges_of c w who) made) same calling) calling'

pub step_once : (c : Code) (w : World) (who : Actor) (e : Event) (new other : World) → IsStep c w who e new → IsStep c w who e other
    → new ≡ other
step_once c w who event.Begin new other x y =
    let f : Follows c w who event.Begin new = x.follows in
    let g : Follows c w who event.Begin other = y.follows in
    let same = next_once c w who f.0 g.0 f.1 g.1 in
    f.2 ∙ ap (λ made. with_note w who event.Begin (with_call (log_of w who) made)) same ∙ sym g.2
step_once c w who (event.Reply reply) new other x y =
    let f : Follows c w who (event.Reply reply) new = x.follows in
    let g : Follows c w who (event.Reply reply) other = y.follows in
    let same = some_is f.0 g.0 (sym f.1 ∙ g.1) in
    f.2 ∙ ap (λ made. with_note w who (event.Reply reply) (with_reply (log_of w who) made reply)) same ∙ sym g.2
step_once c w who (event.Fail fault) new other x y = x.follows ∙ sym y.follows

-- an event that is taken isn't refused
pub never_both : (c : Code) (w : World) (who : Actor) (e : Event) (new : World) → IsStep c w who e new
    → (r : StepRefusal) → IsRefused c w who e r → ⊥
never_both c w who e new step r refused = step.free r refused.against
