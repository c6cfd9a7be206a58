-- What the crates above may cite.
pub mod ActorWords
pub mod Decimals
pub mod Digits
pub mod FirstItems
pub mod Found
pub mod Merges
pub mod OfWords
-- What these proofs alone cite.
mod NameSets
