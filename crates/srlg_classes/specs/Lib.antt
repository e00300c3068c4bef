pub mod Owned
pub mod Sided
