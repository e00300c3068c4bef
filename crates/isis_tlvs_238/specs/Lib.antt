pub mod Runs
pub mod Selected
