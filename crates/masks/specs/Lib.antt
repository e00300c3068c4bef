pub mod Sets
pub mod Applications
