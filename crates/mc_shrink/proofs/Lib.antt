pub mod Unchanged
pub mod Staying
pub mod Parts
pub mod Telling
pub mod Remaining
