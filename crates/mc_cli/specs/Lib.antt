pub mod Args
pub mod Asking
pub mod Commands
pub mod Kinds
pub mod Line
