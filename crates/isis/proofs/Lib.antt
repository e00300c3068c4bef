pub mod Computing
pub mod TypeLaws
pub mod Starred
pub mod Vectors
pub mod WhyVectors
