pub mod Reached
pub mod Around
