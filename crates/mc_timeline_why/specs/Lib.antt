-- What the public contracts cite.
pub use Rattle.mc_history.specs.PrintedHistory
pub use Rattle.mc_linearize.specs.Claims
pub use Rattle.mc_linearize.specs.Verdicts
pub use Rattle.mc_words.specs.Words
pub use Rattle.mc_timeline.specs.Timelines
pub use Rattle.mc_timeline.specs.TimelineText
pub mod Fronts
pub mod TimelineCauses
pub mod TimelineWhyText
-- What private contracts cite.
pub mod Locating
pub mod Cursors
