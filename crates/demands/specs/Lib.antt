pub mod Demands
pub mod Isolation
