use Rattle.std.proofs.Common.{◌≡◌, Some, slice_get, ap, sym, subst, ◌∙◌}
use Rattle.mc_code.specs.declared.instr.Instr.TheVariants as instr
use Rattle.mc_code.specs.{Code.Code, Code.instructions_in, Standing.ComesTo, States.ended}
use Rattle.mc_code.proofs.LookUps.{some_is}
use Rattle.mc_machine.specs.declared.machine.Machine.{Machine}
use Rattle.mc_machine.proofs.Standing.{halts_at_end}
use Rattle.mc_machine.proofs.machine.Machine.at_halt.Goals as goal

pub returns-in_default : goal.returns-in_default
returns-in_default c variables exchanges st at = (λ e. absurd (cc), λ comes. absurd (c.in_default.not-Halt (is_halt comes)))
  where
    code : Code
    code = c.args.checked.now.code

    m : Machine
    m = c.args.self.now

    is_halt : ComesTo code m.actor variables exchanges st ended → c.instruction.result ≡ instr.Halt
    is_halt comes =
        let here = subst (λ code. slice_get (instructions_in code m.actor) c.from.result ≡ Some c.instruction.result) c.code.ensures.code
        c.instruction.ensures.instruction in
        let there = (halts_at_end code m variables exchanges st at).1 comes in
        some_is c.instruction.result instr.Halt (sym here ∙ ap (slice_get (instructions_in code m.actor)) c.from.ensures ∙ there)
