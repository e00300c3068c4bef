pub mod Delivered
pub mod Answers
pub mod Stages
