pub mod Numbers
pub mod Refused
