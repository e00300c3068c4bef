-- Laws that the crates above share.
pub mod SrlgLaws
-- Laws that the crates above share, and those of this crate's own functions.
pub mod Laws
