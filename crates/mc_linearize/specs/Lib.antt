-- What the public contracts cite.
pub use Rattle.mc_timeline.specs.Explanations
pub use Rattle.mc_timeline.specs.Members
pub use Rattle.mc_timeline.specs.Operations
pub use Rattle.mc_timeline.specs.Queues
pub use Rattle.mc_timeline.specs.Rules
pub use Rattle.mc_timeline.specs.Timelines
pub mod Claims
pub mod Keys
pub mod Standing
pub mod Held
pub mod Points
pub mod SearchLaws
pub mod Verdicts
-- What private contracts cite.
pub mod Trials
pub mod Searching
pub mod Shown
pub mod Ways
pub mod Finding
pub mod Starts
pub mod Joints
