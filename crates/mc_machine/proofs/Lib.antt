pub mod Moving
pub mod Standing
