pub mod Linking
pub mod Siblings
