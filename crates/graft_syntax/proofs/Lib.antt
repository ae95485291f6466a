pub mod NameMap
pub mod Knowing
pub mod Passing
pub mod Filling
