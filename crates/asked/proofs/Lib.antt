pub mod Branches
pub mod Regroup
pub mod Zeros
pub mod OnRun
