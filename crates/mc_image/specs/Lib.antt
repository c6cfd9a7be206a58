-- What the public contracts cite.
pub use Rattle.mc_script.specs.Versions
pub use Rattle.mc_code.specs.Code
pub mod Image
pub mod ImageKinds
-- What private contracts cite.
pub mod ImageReading
pub mod ImageWriting
