pub mod Lines
pub mod Figures
pub mod Worked
