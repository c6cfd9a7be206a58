-- What private contracts cite.
pub mod Replays
pub mod FlagReplays
pub mod CostReplays
pub mod KindReplays
