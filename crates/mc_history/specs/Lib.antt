-- What the public contracts cite.
pub use Rattle.mc_model.specs.History
pub use Rattle.mc_model.specs.Notes
pub use Rattle.mc_model.specs.Sections
pub use Rattle.mc_words.specs.Words
pub use Rattle.mc_protocol.specs.Decimals
pub use Rattle.mc_protocol.specs.Faults
pub use Rattle.mc_protocol.specs.Lines
pub use Rattle.mc_protocol.specs.Names
pub use Rattle.mc_protocol.specs.Spelling
pub mod Claim
pub mod Distinct
pub mod Turns
pub mod HistoryText
pub mod PrintedHistory
pub mod StepKinds
pub mod WordKinds
pub mod StepText
-- What private contracts cite.
pub mod Refuses
pub mod Series
pub mod Parts
pub mod PrintedParts
pub mod StepReading
