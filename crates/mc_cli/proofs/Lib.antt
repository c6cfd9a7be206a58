pub mod Asks
pub mod Line
pub mod Names
pub mod Once
pub mod Subcommands
