pub mod Told
pub mod Loaded
