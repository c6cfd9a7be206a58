use Rattle.std.proofs.Common.{◌≡◌, Some, None, slice_get, refl, ap, sym, subst, ◌∙◌}
use Rattle.mc_code.specs.{Calls.IsCalling, Code.Code, Code.instructions_in}
use Rattle.mc_sound.specs.Faults.{IsSound}
use Rattle.mc_machine.specs.{declared.machine.Machine.Machine, Machine.IsAt}
use Rattle.mc_machine.proofs.Standing.{calls_at, template_there, ends_at_no_send, ends_elsewhere}
use Rattle.mc_machine.proofs.machine.Machine.upcoming.Goals as goal

pub call-requires : goal.call-requires
call-requires c =
    let at = ap (slice_get (instructions_in c.code-code.result.now c.args.self.now.actor)) (sym c.from.ensures) ∙ c.in-Send.ensures.instruction in
    template_there c.code-code.result.now c.args.self.now c.in-Send.template c.in-Send.next
    (subst IsSound (sym c.code-code.ensures.code) c.code-code.ensures.sound) at

pub returns-in-Send-clause-call : goal.returns-in-Send-clause-call
returns-in-Send-clause-call c variables exchanges st at =
    subst (λ code. IsCalling code m.actor variables exchanges c.call.result) is
    (calls_at found m variables exchanges st c.in-Send.template c.in-Send.next c.call.result (subst IsSound (sym is) c.code-code.ensures.sound)
    c.instruction.ensures.kept (subst (λ code. IsAt code m variables exchanges st) (sym is) at) (here ∙ ap Some c.in-Send.is)
    c.call.ensures.template c.call.ensures.number)
  where
    found : Code
    found = c.code-code.result.now

    is : found ≡ c.args.checked.now.code
    is = c.code-code.ensures.code

    m : Machine
    m = c.args.self.now

    here : slice_get (instructions_in found m.actor) m.place ≡ Some c.instruction.result
    here = ap (slice_get (instructions_in found m.actor)) (sym c.from.ensures) ∙ c.instruction.ensures.instruction

pub returns-in-Send-clause-end : goal.returns-in-Send-clause-end
returns-in-Send-clause-end c variables exchanges st at = (
  λ none. absurd (let clash : Some c.call.result ≡ None = none in cc),
  λ comes. absurd (ends_at_no_send code m variables exchanges st c.in-Send.template c.in-Send.next at (here ∙ ap Some c.in-Send.is) comes),
)
  where
    code : Code
    code = c.args.checked.now.code

    m : Machine
    m = c.args.self.now

    here : slice_get (instructions_in code m.actor) m.place ≡ Some c.instruction.result
    here = sym (ap (slice_get (instructions_in code m.actor)) c.from.ensures)
        ∙ subst (λ code. slice_get (instructions_in code m.actor) c.from.result ≡ Some c.instruction.result) c.code-code.ensures.code
        c.instruction.ensures.instruction

pub returns-in-Bind-clause-end : goal.returns-in-Bind-clause-end
returns-in-Bind-clause-end c variables exchanges st at =
    (λ none. ends_elsewhere code m variables exchanges st c.instruction.result at here c.in-Bind.is, λ comes. refl)
  where
    code : Code
    code = c.args.checked.now.code

    m : Machine
    m = c.args.self.now

    here : slice_get (instructions_in code m.actor) m.place ≡ Some c.instruction.result
    here = sym (ap (slice_get (instructions_in code m.actor)) c.from.ensures)
        ∙ subst (λ code. slice_get (instructions_in code m.actor) c.from.result ≡ Some c.instruction.result) c.code-code.ensures.code
        c.instruction.ensures.instruction
