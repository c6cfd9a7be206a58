-- What these proofs alone cite.
pub mod Sent
