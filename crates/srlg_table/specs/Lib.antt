pub mod Blocks
pub mod Chains
pub mod Marks
pub mod Tables
