pub mod Filling
pub mod Scan
