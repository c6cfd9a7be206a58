-- What these proofs alone cite.
mod FromReader
pub mod Fronts
pub mod InOrder
pub mod IsRecorded
pub mod Shown
