pub mod Stretch
pub mod Accessors
