pub mod Keeping
pub mod Merging
