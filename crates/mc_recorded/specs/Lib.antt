-- What public contracts cite.
pub use Rattle.mc_lane.specs.Lanes
pub mod Recorded
-- What private contracts cite.
pub mod Fronts
