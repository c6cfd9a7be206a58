-- What the public contracts cite.
pub mod Outputs
pub mod Pieces
pub mod Generated
pub mod Refusals
pub mod CodesUnder
pub mod JobCodes
pub mod Shrunk
-- What private contracts cite.
pub mod Branches
pub mod ImageFronts
pub mod Shrinking
