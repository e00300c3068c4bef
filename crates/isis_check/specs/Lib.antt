pub mod Identifiers
pub mod Parts
pub mod Sides
