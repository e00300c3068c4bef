pub mod Fronts
pub mod Described
pub mod Counts
