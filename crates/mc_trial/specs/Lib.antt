-- What the public contracts cite.
pub use Rattle.mc_claims.specs.Explains
pub use Rattle.mc_core.specs.Held
pub use Rattle.mc_core.specs.Histories
pub use Rattle.mc_core.specs.Safety
pub use Rattle.mc_core.specs.Steps
pub use Rattle.mc_core.specs.Worlds
pub use Rattle.mc_explain.specs.Verdicts
pub use Rattle.mc_run.specs.Agreement
pub use Rattle.mc_run.specs.Running
pub mod Headline
pub mod Judged
