pub mod KeysMore
pub mod WishFacts
pub mod Fitting
pub mod Alike
