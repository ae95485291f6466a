pub mod Held
pub mod Lends
