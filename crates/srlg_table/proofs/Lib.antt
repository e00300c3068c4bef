pub mod Sizes
mod Splits
mod Refines
pub mod ChainLaws
mod Words
pub mod Tabling
