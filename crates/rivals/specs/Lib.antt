pub mod Reads
pub mod Refusing
pub mod Signed
