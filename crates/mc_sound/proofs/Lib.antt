pub mod Structured
pub mod TemplateVariables
pub mod RunLengths
pub mod Right
pub mod Admitted
pub mod FlagLemmas
pub mod Sent
mod CostLemmas
