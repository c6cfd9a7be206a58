-- What the public contracts cite.
pub use Rattle.mc_claims.specs.Explains
pub use Rattle.mc_explain.specs.Verdicts
pub use Rattle.mc_linearize.specs.Claims
pub use Rattle.mc_model.specs.Notes
pub use Rattle.mc_timeline.specs.Explanations
pub use Rattle.mc_timeline.specs.Operations
pub use Rattle.mc_timeline.specs.Rules
pub use Rattle.mc_timeline.specs.Timelines
pub mod SameNotes
pub mod SameExplanations
pub mod SameVerdicts
