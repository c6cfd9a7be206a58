-- What the public contracts cite.
pub use Rattle.mc_protocol.specs.Decimals
pub use Rattle.mc_protocol.specs.Fields
pub use Rattle.mc_protocol.specs.Legal
pub use Rattle.mc_protocol.specs.Names
pub use Rattle.mc_protocol.specs.Words as VerbWords
pub mod Values
pub mod Versions
pub mod Script
pub mod ScriptWords
pub mod Templates
pub mod WellFormed
pub mod WithoutStep
-- What private contracts cite, here and above.
pub mod Chains
