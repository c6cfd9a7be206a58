-- What the public contracts cite.
pub mod Machine
pub mod Laws
-- What private contracts cite.
pub mod Moves
