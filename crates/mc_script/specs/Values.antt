-- The values that definitions and proofs name: each type with its constructors, and the limits.
pub use Rattle.mc_protocol.specs.declared.lines.Separator.TheVariants.{SpaceOrTab}
pub use Rattle.mc_protocol.specs.declared.limits.TheConstants.{KEYS_LIMIT, KEY_BYTES_LIMIT, REQUESTS_LIMIT, REQUEST_BYTES_LIMIT}
pub use Rattle.mc_protocol.specs.declared.limits.TheConstants.{SCRIPT_BODY_LIMIT}
pub use Rattle.mc_protocol.specs.{declared.actor.Actor.Actor, declared.sections.Sections.Sections, declared.reply.Class.Class}
pub use Rattle.mc_protocol.specs.{declared.request.Fields.Fields, declared.request.Verb.Verb, Lines.Word, Lines.Words}
pub use Rattle.mc_protocol.specs.declared.actor.Actor.TheVariants as actor
pub use Rattle.mc_protocol.specs.declared.reply.Class.TheVariants as class
pub use Rattle.mc_protocol.specs.declared.request.Fields.TheVariants as fields
pub use Rattle.mc_script.specs.declared.limits.TheConstants.{FLAGS_LIMIT, NAME_BYTES_LIMIT, STEPS_LIMIT, VARIABLES_LIMIT}
pub use Rattle.mc_script.specs.{declared.section.Budget.Budget, declared.section.Label.Label, declared.step.Argument.Argument}
pub use Rattle.mc_script.specs.{declared.step.Step.Step, declared.step.Template.Template, declared.version.Version.Version}
pub use Rattle.mc_script.specs.declared.step.Argument.TheVariants as argument
pub use Rattle.mc_script.specs.declared.step.Step.TheVariants as step
pub use Rattle.mc_script.specs.declared.version.Version.TheVariants as version
