pub mod SrlgLaws
pub mod Laws
pub mod SetLaws
pub mod Turns
