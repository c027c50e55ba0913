pub mod Repeating
pub mod Seating
pub mod Tallies
