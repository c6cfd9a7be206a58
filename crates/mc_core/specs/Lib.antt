-- What the public contracts cite.
pub use Rattle.mc_protocol.specs.Decimals
pub use Rattle.mc_protocol.specs.Faults
pub use Rattle.mc_protocol.specs.Legal
pub use Rattle.mc_protocol.specs.Lines
pub use Rattle.mc_protocol.specs.Merge
pub use Rattle.mc_protocol.specs.Sections
pub use Rattle.mc_protocol.specs.Spelling
pub use Rattle.mc_code.specs.Calls
pub use Rattle.mc_code.specs.Code
pub use Rattle.mc_code.specs.Standing
pub use Rattle.mc_sound.specs.Faults as CodeFaults
pub use Rattle.mc_sound.specs.Flags
pub use Rattle.mc_model.specs.Notes
pub mod Logs
pub mod Worlds
pub mod Steps
pub mod Safety
pub mod Histories
pub mod Laws
-- What private contracts cite.
pub mod Held
pub mod Fields
