pub mod Outputs
pub mod Sessions
