mod Identified
mod Said
mod Gathers
pub mod Rooms
