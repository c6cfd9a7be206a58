-- What the public contracts cite.
pub mod Namespaces
pub mod JobKeys
