-- The values that definitions and proofs name: those of `mc_script`, and those that stand for what was read.
pub use Rattle.mc_protocol.specs.declared.lines.Separator.TheVariants.{SpaceOrTab}
pub use Rattle.mc_protocol.specs.declared.limits.TheConstants.{KEYS_LIMIT, KEY_BYTES_LIMIT, REQUESTS_LIMIT, REQUEST_BYTES_LIMIT}
pub use Rattle.mc_protocol.specs.declared.limits.TheConstants.{SCRIPT_BODY_LIMIT}
pub use Rattle.mc_protocol.specs.{declared.actor.Actor.Actor, declared.sections.Sections.Sections, declared.reply.Class.Class}
pub use Rattle.mc_protocol.specs.{declared.request.Fields.Fields, declared.request.Verb.Verb, Lines.Word, Lines.Words}
pub use Rattle.mc_protocol.specs.declared.actor.Actor.TheVariants as actor
pub use Rattle.mc_protocol.specs.declared.reply.Class.TheVariants as class
pub use Rattle.mc_protocol.specs.declared.request.Fields.TheVariants as fields
pub use Rattle.mc_script.specs.declared.limits.TheConstants.{FLAGS_LIMIT, NAME_BYTES_LIMIT, STEPS_LIMIT, VARIABLES_LIMIT}
pub use Rattle.mc_script.specs.{declared.section.Budget.Budget, declared.section.Label.Label, declared.step.Argument.Argument}
pub use Rattle.mc_script.specs.{declared.step.Step.Step, declared.step.Template.Template, declared.version.Version.Version}
pub use Rattle.mc_script.specs.declared.step.Argument.TheVariants as argument
pub use Rattle.mc_script.specs.declared.step.Step.TheVariants as step
pub use Rattle.mc_script.specs.declared.version.Version.TheVariants as version
pub use Rattle.mc_script_text.specs.declared.fault.ScriptFault.{ScriptFault}
pub use Rattle.mc_script_text.specs.declared.word_fault.WordFault.{WordFault}
pub use Rattle.mc_script_text.specs.{declared.entry.Entry.Entry, declared.entry.Mark.Mark, declared.entry.Sign.Sign}
pub use Rattle.mc_script_text.specs.{declared.fault.ScriptKind.ScriptKind, declared.fields.Parts.Parts, declared.read_entry.Keyword.Keyword}
pub use Rattle.mc_script_text.specs.declared.entry.Entry.TheVariants as entry
pub use Rattle.mc_script_text.specs.declared.entry.Mark.TheVariants as mark
pub use Rattle.mc_script_text.specs.declared.entry.Sign.TheVariants as sign
pub use Rattle.mc_script_text.specs.declared.fault.ScriptKind.TheVariants as kind
pub use Rattle.mc_script_text.specs.declared.read_entry.Keyword.TheVariants as keyword
