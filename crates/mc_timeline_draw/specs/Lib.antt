-- What the public contracts cite.
pub use Rattle.mc_linearize.specs.Claims
pub use Rattle.mc_linearize.specs.Keys
pub use Rattle.mc_linearize.specs.Verdicts
pub use Rattle.mc_timeline.specs.Timelines
pub use Rattle.mc_timeline_why.specs.TimelineCauses
pub mod Known
