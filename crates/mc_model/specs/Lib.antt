-- What the public contracts cite.
pub use Rattle.mc_protocol.specs.Decimals
pub use Rattle.mc_protocol.specs.Fields
pub use Rattle.mc_protocol.specs.Legal
pub use Rattle.mc_protocol.specs.Lines
pub use Rattle.mc_protocol.specs.Names
pub use Rattle.mc_protocol.specs.Words as VerbWords
pub mod Types
pub mod Contents
pub mod Numeral
pub mod Act
pub mod ActLaws
pub mod Decide
pub mod NumeralLaws
pub mod NumeralReading
pub mod Sections
pub mod History
pub mod HistoryLaws
pub mod Notes
pub mod Kinds
-- What private contracts cite.
pub mod Next
