pub mod Uncut
pub mod Left
