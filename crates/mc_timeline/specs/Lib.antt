-- What the public contracts cite.
pub use Rattle.mc_claims.specs.Explains
pub use Rattle.mc_claims.specs.Replay
pub use Rattle.mc_history.specs.Distinct
pub use Rattle.mc_history.specs.HistoryText
pub use Rattle.mc_history.specs.PrintedHistory
pub use Rattle.mc_model.specs.Contents
pub use Rattle.mc_model.specs.History
pub mod Members
pub mod Operations
pub mod Timelines
pub mod Explanations
pub mod Rules
pub mod TimelineText
pub mod Laws
pub mod Walks
pub mod Queues
pub mod Restrictions
-- What private contracts cite.
pub mod RuleState
pub mod PrintedNotes
