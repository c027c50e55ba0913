pub mod Entries
pub mod Seats
pub mod Step
pub mod Tally
