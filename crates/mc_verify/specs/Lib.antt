-- What the public contracts cite.
pub mod Refusals
pub mod Shown
-- What private contracts cite.
pub mod FlowPaths
pub mod FaultGroups
pub mod Lowest
pub mod VariableFaults
pub mod PrefixReplies
pub mod CostPaths
pub mod KindPaths
pub mod FlagPaths
