-- Steps of a world: which events it takes, and what each does; and the fold of a list of events.
use Rattle.std.specs.Prelude.{◌≡◌, ◌⊎◌, ℕ, ◌+◌, ◌<◌, false, Some, None, List, [], ◌∷◌}
use Rattle.mc_protocol.specs.{Legal.is_fit_for, declared.actor.Actor.Actor, declared.event.Event.Event, declared.fault.Fault.Fault}
use Rattle.mc_protocol.specs.declared.event.Event.TheVariants as event
use Rattle.mc_code.specs.{Calls.IsCalling, Calls.template_of, declared.instr.Call.Call}
use Rattle.mc_code.specs.{Code.Code, States.Tagged}
use Rattle.mc_core.specs.Worlds.{World, Noted, new_world, log_of, with_note, exchanges_of, BeginsIn, IsBegun, IsDone}
use Rattle.mc_core.specs.{declared.step_refusal.StepRefusal.StepRefusal, Logs.with_call, Logs.with_reply, Logs.with_fault}
use Rattle.mc_core.specs.declared.step_refusal.StepRefusal.TheVariants as refusal

-- ---- refusals

-- their order
abbrev pub refusal_number : StepRefusal → ℕ
refusal_number refusal.NotYet = 1
refusal_number refusal.Over = 2
refusal_number refusal.Waiting = 3
refusal_number refusal.NotWaiting = 4
refusal_number refusal.WrongReply = 5

-- the section's call waits for its reply
abbrev pub Waits : World → Actor → Call → Type 0
Waits w who made = (log_of w who).waiting ≡ Some made

-- this is against the event, whatever else is: the section hasn't begun; it is over; a call begins while another waits for its
-- reply; a reply comes while none waits; the reply isn't one that the call may have
abbrev pub IsAgainst : Code → World → Actor → Event → StepRefusal → Type 0
IsAgainst c w who e refusal.NotYet = IsBegun c w who → ⊥
IsAgainst c w who e refusal.Over = ((fault : Fault) × ((log_of w who).fault ≡ Some fault)) ⊎ IsDone c w who
IsAgainst c w who event.Begin refusal.Waiting = (made : Call) × Waits w who made
IsAgainst c w who (event.Reply reply) refusal.Waiting = ⊥
IsAgainst c w who (event.Fail fault) refusal.Waiting = ⊥
IsAgainst c w who event.Begin refusal.NotWaiting = ⊥
IsAgainst c w who (event.Reply reply) refusal.NotWaiting = (log_of w who).waiting ≡ None
IsAgainst c w who (event.Fail fault) refusal.NotWaiting = ⊥
IsAgainst c w who event.Begin refusal.WrongReply = ⊥
IsAgainst c w who (event.Reply reply) refusal.WrongReply =
    (made : Call) × Waits w who made × (is_fit_for (template_of c made).verb reply ≡ false)
IsAgainst c w who (event.Fail fault) refusal.WrongReply = ⊥

-- this is the first of all that is against the event
pub record IsRefused (c : Code) (w : World) (who : Actor) (e : Event) (r : StepRefusal) : Type 0 where
  pub against : IsAgainst c w who e r
  pub first : (other : StepRefusal) → refusal_number other < refusal_number r → IsAgainst c w who e other → ⊥

-- ---- steps

-- the section is about to make this call
abbrev pub IsNext : Code → World → Actor → Call → Type 0
IsNext c w who made = (variables : List Tagged) × BeginsIn c w who variables × IsCalling c who variables (exchanges_of c w who) made

-- the section may begin this call: nothing is against it, and it is the call that the section is about to make
pub record MayBegin (c : Code) (w : World) (who : Actor) (made : Call) : Type 0 where
  pub begun : IsBegun c w who
  pub free : (r : StepRefusal) → IsAgainst c w who event.Begin r → ⊥
  pub next : IsNext c w who made

-- the world after an event that is taken: the section's next call waits; its call that waits has the reply; the section has failed,
-- and a call that waits goes on waiting
abbrev pub Follows : Code → World → Actor → Event → World → Type 0
Follows c w who event.Begin new =
    (made : Call) × IsNext c w who made × (new ≡ with_note w who event.Begin (with_call (log_of w who) made))
Follows c w who (event.Reply reply) new =
    (made : Call) × Waits w who made × (new ≡ with_note w who (event.Reply reply) (with_reply (log_of w who) made reply))
Follows c w who (event.Fail fault) new = new ≡ with_note w who (event.Fail fault) (with_fault (log_of w who) fault)

-- nothing is against the event, and this is the world after it
pub record IsStep (c : Code) (w : World) (who : Actor) (e : Event) (new : World) : Type 0 where
  pub begun : IsBegun c w who
  pub free : (r : StepRefusal) → IsAgainst c w who e r → ⊥
  pub follows : Follows c w who e new

-- ---- folds

-- one event after the other is taken, or skipped where it is refused; the number counts those that are skipped
pub data IsFold (c : Code) : World → List Noted → World → ℕ → Type 0 where
  ends : {w : World} → IsFold c w [] w 0
  steps : {w next end : World} {who : Actor} {e : Event} {events : List Noted} {skipped : ℕ}
      → IsStep c w who e next → IsFold c next events end skipped → IsFold c w ((who, e) ∷ events) end skipped
  skips : {w end : World} {who : Actor} {e : Event} {events : List Noted} {skipped : ℕ} (r : StepRefusal)
      → IsRefused c w who e r → IsFold c w events end skipped → IsFold c w ((who, e) ∷ events) end (skipped + 1)

-- the world is the fold of its own notes, of which none is refused
abbrev pub IsWorldOf : Code → World → Type 0
IsWorldOf c w = IsFold c new_world w.notes w 0
