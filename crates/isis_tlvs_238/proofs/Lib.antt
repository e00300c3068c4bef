pub mod Words
pub mod Sorted
pub mod Tlvs
pub mod Walks
