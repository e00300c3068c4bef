-- Laws that the crates above share.
pub mod AslaLaws
-- Laws that the crates above share.
pub mod Laws
