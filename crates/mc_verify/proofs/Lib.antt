pub mod FlagFaults
pub mod Exceeding
pub mod Leasts
mod Limits
pub mod FaultKinds
pub mod FaultsAt
pub mod WrongNumbers
pub mod ShownReplies
pub mod FlowPaths
pub mod CostPaths
pub mod PrefixPaths
pub mod KindPaths
pub mod KindsLed
pub mod VariableCounterexamples
pub mod FlagPaths
pub mod FlagCounterexamples
