-- What the public contracts cite.
pub use Rattle.mc_lane.specs.Lanes
pub use Rattle.mc_recorded.specs.Recorded
pub use Rattle.mc_timeline.specs.Rules
pub use Rattle.mc_timeline.specs.Timelines
pub use Rattle.mc_linearize.specs.Verdicts
pub use Rattle.mc_shrink.specs.Parts
pub mod Agreement
pub mod Evidence
pub mod Laws
-- What private contracts cite.
pub mod SentFrom
