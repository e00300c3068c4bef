pub mod Types
pub mod Grids
pub mod Walks
pub mod Aslas
pub mod Rows
pub mod Places
pub mod Taken
