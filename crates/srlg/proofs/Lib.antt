-- Laws that the crates above share, and those of this crate's own loops.
pub mod Laws
mod Merges
mod Moves
