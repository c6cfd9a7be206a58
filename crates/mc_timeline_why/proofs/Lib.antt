pub mod Fronts
pub mod Places
pub mod Opened
pub mod MoveLines
