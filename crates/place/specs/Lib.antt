pub mod Figures
pub mod Partial
pub mod Held
pub mod ByCounts
