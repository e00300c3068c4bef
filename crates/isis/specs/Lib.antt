pub mod Types
pub mod MaskHeader
pub mod RunA
pub mod RunB
pub mod Link
pub mod Why
pub mod Starred
