pub mod Classes
pub mod Sources
