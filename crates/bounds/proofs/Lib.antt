pub mod Starting
pub mod Sweeping
pub mod Counting
