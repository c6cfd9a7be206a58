use Rattle.std.proofs.Common.{◌∙◌, map, string_bytes, sym, subst, Some, inl, inr}
use Rattle.std.proofs.Math.Path.{fun_ext}
use Rattle.mc_cli.proofs.{Asks.asks_once, Asks.fault_by_clap, Asks.fault_of_values, Line.command_is, Line.line_faults-is, Line.program_is_simple, Line.value_is}
use Rattle.mc_cli.specs.{Asking.IsAskedBy, declared.request.Request.Request}
use Rattle.mc_cli.proofs.request.read_request.Goals as goal

pub returns-in-Err-clause-fault : goal.returns-in-Err-clause-fault
returns-in-Err-clause-fault c =
    let words = map string_bytes c.args.line.now in
    let program = c.in_ok-program.ensures in
    elim (rw (line_faults-is _ words program) at (c.in-Err.ensures.kinds (program_is_simple _ program))) [
      | inl memory ↦ rw (c.clap_fault.ensures.memory memory) tt
      | inr among ↦ fault_by_clap words _ c.clap_fault.result among c.clap_fault.ensures.says
    ]

pub returns-in-Ok-read_options-clause-asked : goal.returns-in-Ok-read_options-clause-asked
returns-in-Ok-read_options-clause-asked c =
    let words = map string_bytes c.args.line.now in
    let program = c.in_ok-program.ensures in
    let matches = c.in-Ok.ensures.matches in
    let clear = sym (line_faults-is _ words program) ∙ c.in-Ok.ensures.kinds (program_is_simple _ program) in
    let command = command_is _ words _ program matches _ c.in-Some.ensures.name in
    let same = fun_ext (λ name. sym (value_is _ words _ program matches _ c.in-Some.ensures.rows name)) in (
      clear,
      rw command (subst (λ value. IsAskedBy (Some c.in-Some.name.now) value c.in-Ok-read_options.request) same
          c.in-Ok-read_options.ensures.asked),
    )

pub returns-in-Ok-read_options-clause-only : goal.returns-in-Ok-read_options-clause-only
returns-in-Ok-read_options-clause-only c wanted asks = asks_once _ _ wanted (returns-in-Ok-read_options-clause-asked c) asks

pub returns-in-Some-clause-fault : goal.returns-in-Some-clause-fault
returns-in-Some-clause-fault c =
    let words = map string_bytes c.args.line.now in
    let program = c.in_ok-program.ensures in
    let matches = c.in-Ok.ensures.matches in
    let clear = sym (line_faults-is _ words program) ∙ c.in-Ok.ensures.kinds (program_is_simple _ program) in
    let command = command_is _ words _ program matches _ c.in-Some.ensures.name in
    let same = fun_ext (λ name. sym (value_is _ words _ program matches _ c.in-Some.ensures.rows name)) in
    fault_of_values words c.option_fault.result clear
    (rw command (subst (λ value. (wanted : Request) → IsAskedBy (Some c.in-Some.name.now) value wanted → ⊥) same
    c.in-Err-read_options.ensures.none)) c.option_fault.ensures
