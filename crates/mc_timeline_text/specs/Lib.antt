-- What the public contracts cite.
pub use Rattle.mc_history.specs.HistoryText
pub use Rattle.mc_history.specs.PrintedHistory
pub use Rattle.mc_history.specs.Refuses
pub use Rattle.mc_linearize.specs.Claims
pub use Rattle.mc_protocol.specs.Lines
pub use Rattle.mc_timeline.specs.Rules
pub use Rattle.mc_timeline.specs.Timelines
pub use Rattle.mc_timeline.specs.TimelineText
pub mod TimelineTexts
-- What private contracts cite.
pub mod TimelineParts
