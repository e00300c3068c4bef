pub mod Index
pub mod Started
pub mod Settled
pub mod Indexed
