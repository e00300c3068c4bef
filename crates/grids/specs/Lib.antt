pub mod Grids
pub mod Slots
