-- What the public contracts cite.
pub mod Refusals
pub mod Wholes
