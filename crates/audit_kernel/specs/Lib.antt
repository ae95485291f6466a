pub mod Runs
pub mod Asked
pub mod Steps
pub mod Sights
pub mod Rows
pub mod Holders
