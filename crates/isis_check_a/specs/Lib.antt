pub mod Headers
pub mod Legacy
