pub mod Has
pub mod First
pub mod Runs
pub mod Rules
pub mod Lies
