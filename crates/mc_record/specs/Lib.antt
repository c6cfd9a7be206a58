-- What private contracts cite.
pub mod Judging
pub mod Recorded
