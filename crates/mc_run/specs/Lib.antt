-- What the public contracts cite.
pub use Rattle.mc_core.specs.Held
pub use Rattle.mc_core.specs.Histories
pub use Rattle.mc_core.specs.Safety
pub use Rattle.mc_core.specs.Steps
pub use Rattle.mc_core.specs.Worlds
pub use Rattle.mc_lane.specs.Lanes
pub use Rattle.mc_recorded.specs.Recorded
pub mod Agreement
pub mod Books
pub mod Holders
pub mod Laws
pub mod Running
