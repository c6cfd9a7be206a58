-- What the public contracts cite.
pub use Rattle.mc_protocol.specs.Decimals
pub use Rattle.mc_protocol.specs.Fields
pub use Rattle.mc_protocol.specs.Legal
pub use Rattle.mc_protocol.specs.Lines
pub use Rattle.mc_protocol.specs.Names
pub use Rattle.mc_protocol.specs.Spelling
pub use Rattle.mc_protocol.specs.Words as VerbWords
pub use Rattle.mc_script.specs.Script
pub use Rattle.mc_script.specs.ScriptWords
pub use Rattle.mc_script.specs.Versions
pub use Rattle.mc_script.specs.WellFormed
pub mod Values
pub mod Marks
pub mod Steps
pub mod SectionText
pub mod ScriptText
pub mod FrontText
pub mod PrintedScript
pub mod WithoutStep
pub mod Kinds
-- What private contracts cite.
pub mod Reading
