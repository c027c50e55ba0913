pub mod Searching
pub mod ByTables
