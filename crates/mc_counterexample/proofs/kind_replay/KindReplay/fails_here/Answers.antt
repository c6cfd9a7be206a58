use Rattle.std.proofs.Common.{slice_get, ap, sym, ◌∙◌}
use Rattle.mc_code.specs.{Code.instructions_in, Runs.met_at}
use Rattle.mc_counterexample.specs.KindReplays.{state_of}
use Rattle.mc_verify.specs.VariableFaults.{is_outcome}
use Rattle.mc_counterexample.proofs.kind_replay.KindReplay.fails_here.Goals as goal

pub returns-in-Bind : goal.returns-in-Bind
returns-in-Bind c =
    let code = c.args.code.now in
    let st = state_of code c.args.self.now.known in
    let at = ap (slice_get (instructions_in code c.args.section)) (sym c.from.ensures) ∙ c.in-Bind.ensures.instruction in
    let same = c.binds_nothing.ensures code c.in-Bind.field-0 ∙ ap (λ o. is_outcome c.args.kind (met_at code.templates o st)) (sym at) in
    (λ e. sym same ∙ e, λ e. same ∙ e)
