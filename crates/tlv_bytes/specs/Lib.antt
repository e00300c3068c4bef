pub mod Fronts
pub mod Tlvs
