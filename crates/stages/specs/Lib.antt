pub mod Charges
pub mod Ready
