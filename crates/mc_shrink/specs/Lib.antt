-- What the public contracts cite.
pub use Rattle.mc_linearize.specs.Verdicts
pub use Rattle.mc_timeline.specs.Explanations
pub use Rattle.mc_timeline.specs.Members
pub use Rattle.mc_timeline.specs.Operations
pub use Rattle.mc_timeline.specs.Restrictions
pub use Rattle.mc_timeline.specs.Rules
pub use Rattle.mc_timeline.specs.Timelines
pub mod Parts
-- What private contracts cite.
pub mod Going
