pub mod Computing
pub mod Vectors
pub mod ElementLaws
pub mod WalkLaws
pub mod ListLaws
pub mod MaskLaws
pub mod Retired
