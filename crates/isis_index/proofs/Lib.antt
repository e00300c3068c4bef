-- Laws that the crates above share.
pub mod Codes
pub mod Cells
pub mod Heard
pub mod Lists
pub mod Pairs
pub mod Aslas
pub mod Taking
pub mod Walking
pub mod Settling
pub mod RsvpTe
pub mod Values
pub mod Starting
pub mod Slots
pub mod Ending
