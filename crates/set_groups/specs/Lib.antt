pub mod Groups
pub mod Table
pub mod Members
