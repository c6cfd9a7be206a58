-- Runs of code: a section's instructions, from reply to reply, with what its variables hold.
use Rattle.std.specs.Prelude.{◌≡◌, ℕ, true, Option, Some, None, List, [], ◌∷◌, slice_get}
use Rattle.mc_protocol.specs.{Legal.class_of, Legal.is_fit_for, declared.reply.Reply.Reply}
use Rattle.mc_script.specs.declared.step.Template.{Template}
use Rattle.mc_code.specs.States.{State, after_reply, after_bind, Outcome, outside, ended, send_outcome, bind_outcome}
use Rattle.mc_code.specs.{declared.instr.Instr.Instr, Paths.Slides, Paths.Sends}
use Rattle.mc_code.specs.declared.instr.Instr.TheVariants as instr

-- a request, with its reply
abbrev pub Exchange : Type 0
Exchange = Template × Reply

-- the state after an instruction that leads on without a reply
abbrev pub after_slide : Instr → State → State
after_slide (instr.Bind variable) st = after_bind variable st
after_slide (instr.Goto place) st = st
after_slide (instr.Send t next) st = st
after_slide instr.Halt st = st

-- these exchanges lead from one place and state to another; a run goes on past what is wrong
pub data IsRun (templates : List Template) (section : List Instr) : ℕ → State → List Exchange → ℕ → State → Type 0 where
  rests : {p : ℕ} {st : State} → IsRun templates section p st [] p st
  slides : {p q r : ℕ} {st st' : State} {exchanges : List Exchange} (i : Instr) → slice_get section p ≡ Some i → Slides i p q
      → IsRun templates section q (after_slide i st) exchanges r st' → IsRun templates section p st exchanges r st'
  sends : {p q r : ℕ} {st st' : State} {exchanges : List Exchange} {t : Template} {reply : Reply} (i : Instr)
      → slice_get section p ≡ Some i → Sends templates i t (class_of reply) q → is_fit_for t.verb reply ≡ true
      → IsRun templates section q (after_reply t reply st) exchanges r st'
      → IsRun templates section p st ((t, reply) ∷ exchanges) r st'

-- ---- what stands at a place

-- what a send comes to, if its template is there
abbrev pub met_by_send : Option Template → State → Outcome
met_by_send (Some t) st = send_outcome t st
met_by_send None st = outside

-- what the section comes to at an instruction, if anything
abbrev pub met_at : List Template → Option Instr → State → Option Outcome
met_at templates None st = Some outside
met_at templates (Some (instr.Send t next)) st = Some (met_by_send (slice_get templates t) st)
met_at templates (Some (instr.Bind variable)) st = bind_outcome variable st
met_at templates (Some (instr.Goto place)) st = None
met_at templates (Some instr.Halt) st = Some ended
