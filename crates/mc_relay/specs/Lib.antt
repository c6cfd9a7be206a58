-- What the public contracts cite.
pub use Rattle.mc_lane.specs.Sending
pub use Rattle.mc_lane.specs.Streams
pub mod Passing
