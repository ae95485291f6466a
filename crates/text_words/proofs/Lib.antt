mod Splits
pub mod Digits
mod Passing
