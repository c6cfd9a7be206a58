use Rattle.std.proofs.Common.{◌≡◌, ◌≢◌, None, sym, ap, ◌∙◌, rules}
use Rattle.mc_protocol.specs.Words.{all_classes}
use Rattle.mc_script_text.specs.declared.fault.ScriptKind.TheVariants as kind
use Rattle.mc_script_text.specs.{Steps.jumps_on, Reading.targets_in}
use Rattle.mc_script_text.proofs.JumpLists.{jumps-found, jumps-missing}
use Rattle.mc_script_text.proofs.resolve.jumps_of.Goals as goal

pub returns-in_err-targets : goal.returns-in_err-targets
returns-in_err-targets c =
    let labels = c.args.labels.now in
    let place = c.args.place in
    let marks = c.args.marks.now in
    let same = ap (targets_in labels place) c.as_slice.ensures.marks in
    let none : c.in_err-targets.field-0.0.kind ≢ kind.OutOfMemory → jumps_on labels place marks all_classes ≡ None =
    λ real. jumps-missing labels place marks (sym same ∙ c.in_err-targets.ensures real) c.as_slice.ensures.apart in
    search rules

pub returns : goal.returns
returns c =
    let labels = c.args.labels.now in
    let place = c.args.place in
    let marks = c.args.marks.now in
    let same = ap (targets_in labels place) c.as_slice.ensures.marks in
    let found = jumps-found labels place marks c.in_ok-targets.targets.items all_classes (sym same ∙ c.in_ok-targets.ensures) in
    rw (c.new.ensures, c.in_ok-jumps.ensures, c.deref.ensures.value) found
