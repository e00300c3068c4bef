-- Laws that the crates above share.
pub mod Marks
pub mod Tables
pub mod Bits
pub mod Named
pub mod Owns
pub mod Assigns
