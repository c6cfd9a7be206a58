pub mod WithoutStep
