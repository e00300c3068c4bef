pub mod Computing
pub mod Laws
pub mod Lengths
