-- What the public contracts cite.
pub use Rattle.mc_protocol.specs.Decimals
pub use Rattle.mc_protocol.specs.Fields
pub use Rattle.mc_protocol.specs.Legal
pub use Rattle.mc_protocol.specs.Lines
pub use Rattle.mc_protocol.specs.Names
pub use Rattle.mc_protocol.specs.Words as VerbWords
pub use Rattle.mc_model.specs.History
pub mod Words
pub mod Misreadings
pub mod WordLaws
-- What private contracts cite.
pub mod Reading
pub mod Printing
