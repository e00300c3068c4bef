pub mod Marks
pub mod Joins
pub mod Keying
mod Rankings
