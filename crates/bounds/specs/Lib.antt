pub mod Sweep
pub mod Between
