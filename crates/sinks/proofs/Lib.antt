pub mod Whole
pub mod Exact
pub mod Counts
pub mod Fractions
pub mod Loading
