mod Gives
mod Assigns
mod Numbers
mod Rsvp
pub mod Siding
pub mod Carrying
