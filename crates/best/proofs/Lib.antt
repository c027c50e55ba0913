pub mod AtPlace
pub mod ByPosition
pub mod Drivers
pub mod Path
pub mod Reaching
