-- What the public contracts cite.
pub use Rattle.mc_protocol.specs.Legal
pub use Rattle.mc_protocol.specs.Sections
pub use Rattle.mc_script.specs.Script
pub use Rattle.mc_script.specs.Templates
pub use Rattle.mc_script.specs.WellFormed
pub use Rattle.mc_code.specs.Code
pub use Rattle.mc_code.specs.Paths
pub use Rattle.mc_code.specs.Runs
pub use Rattle.mc_code.specs.Standing
pub use Rattle.mc_code.specs.States
pub mod ScriptRuns
pub mod Agreement
pub mod Layout
pub mod LayoutLaws
pub mod AsmKinds
-- What private contracts cite.
pub mod Assembling
