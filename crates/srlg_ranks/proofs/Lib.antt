-- Laws that the crates above share, and those of this crate's own loops.
pub mod Members
pub mod Laws
pub mod Bits
pub mod Steps
