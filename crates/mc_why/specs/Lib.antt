-- What the public contracts cite.
pub use Rattle.mc_claims.specs.Explains
pub use Rattle.mc_claims.specs.ExplainsLaws
pub use Rattle.mc_claims.specs.Orders
pub use Rattle.mc_claims.specs.Replay
pub use Rattle.mc_explain.specs.Choices
pub use Rattle.mc_explain.specs.Hopeless
pub use Rattle.mc_history.specs.Claim
pub use Rattle.mc_history.specs.Distinct
pub use Rattle.mc_history.specs.PrintedHistory
pub use Rattle.mc_history.specs.Turns
pub use Rattle.mc_model.specs.Act
pub use Rattle.mc_model.specs.Contents
pub use Rattle.mc_model.specs.History
pub use Rattle.mc_model.specs.Notes
pub use Rattle.mc_model.specs.Sections
pub use Rattle.mc_words.specs.Words
pub mod Cuts
pub mod Causes
pub mod Answers
pub mod Forms
pub mod CutLaws
pub mod AnswerLaws
pub mod WhyText
-- What private contracts cite.
pub mod Answering
pub mod Locating
pub mod Trying
