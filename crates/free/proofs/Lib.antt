pub mod Apart
pub mod Tables
pub mod Turns
pub mod Calls
pub mod Passing
pub mod Placed
