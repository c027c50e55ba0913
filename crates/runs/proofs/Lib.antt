pub mod All
pub mod Climbing
pub mod Pairs
