-- What these proofs alone cite.
pub mod Agreed
pub mod Begins
mod Grown
mod NotBegun
