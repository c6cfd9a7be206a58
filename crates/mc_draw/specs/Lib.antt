-- What the public contracts cite.
pub use Rattle.mc_claims.specs.Explains
pub use Rattle.mc_explain.specs.Hopeless
pub use Rattle.mc_model.specs.Notes
pub use Rattle.mc_why.specs.Causes
pub mod Known
