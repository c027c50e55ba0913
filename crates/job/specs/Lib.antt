pub mod WireAt
pub mod Ranges
pub mod Runs
pub mod Tables
pub mod RunOf
pub mod RecordsOf
