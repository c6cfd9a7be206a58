pub mod Entries
pub mod Flows
pub mod FlowLaws
pub mod CostTables
pub mod Kinds
pub mod RunKinds
pub mod FlagTables
