-- What the public contracts cite.
pub mod Draws
pub mod Wishes
pub mod Clients
pub mod Openings
pub mod RoundKeys
pub mod Laws
