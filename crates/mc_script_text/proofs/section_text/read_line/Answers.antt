use Rattle.std.proofs.Common.{◌≡◌, ◌≢◌, Some, None, cond, not, sym, ap, ◌∙◌, rules}
use Rattle.mc_script.specs.Versions.{steps_limit}
use Rattle.mc_script_text.specs.declared.fault.ScriptKind.TheVariants as kind
use Rattle.mc_script_text.specs.{Reading.entry_in, Reading.following}
use Rattle.mc_script_text.proofs.Labelled.{step_following, step_adds, label_following, label_unread}
use Rattle.mc_script_text.proofs.section_text.read_line.Goals as goal

pub returns-in_default-clause-entry : goal.returns-in_default-clause-entry
returns-in_default-clause-entry c =
    let read = rw (c.words.ensures, c.has_room.ensures) at c.read_step.ensures in
    rw (step_following (steps_limit c.args.version) c.args.count c.args.labels.now c.args.names.now c.args.line.now.words c.in_default.ensures) read

pub returns-in_default-clause-labels : goal.returns-in_default-clause-labels
returns-in_default-clause-labels c =
    let read = rw (c.words.ensures, c.has_room.ensures) at c.read_step.ensures in
    step_adds (steps_limit c.args.version) c.args.count c.args.labels.now c.args.names.now c.args.line.now.words c.read_step.result c.in_default.ensures read

pub returns-in_err-label-clause-entry : goal.returns-in_err-label-clause-entry
returns-in_err-label-clause-entry c =
    let names = c.args.names.now in
    let line = c.args.line.now.words in
    let limit = steps_limit c.args.version in
    let none : c.in_err-label.field-0.0.kind ≢ kind.OutOfMemory → following limit c.args.count c.args.labels.now (entry_in names line) ≡ None =
    λ real. label_unread limit c.args.count c.args.labels.now names line c.in-Some.name.now c.in-Some.ensures (c.in_err-label.ensures real) in
    search rules

pub returns-then-has-clause-entry : goal.returns-then-has-clause-entry
returns-then-has-clause-entry c = λ real.
    label_following (steps_limit c.args.version) c.args.count c.args.labels.now c.args.names.now c.args.line.now.words c.in-Some.name.now c.in_ok-label.label
    c.in-Some.ensures c.in_ok-label.ensures
    ∙ ap (λ b. cond b (Some c.in_ok-label.label) None) (ap not (sym c.has.ensures ∙ c.if-has.true))

pub returns-clause-entry : goal.returns-clause-entry
returns-clause-entry c =
    label_following (steps_limit c.args.version) c.args.count c.args.labels.now c.args.names.now c.args.line.now.words c.in-Some.name.now c.in_ok-label.label
    c.in-Some.ensures c.in_ok-label.ensures
    ∙ ap (λ b. cond b (Some c.in_ok-label.label) None) (ap not (sym c.has.ensures ∙ c.if-has.false))
