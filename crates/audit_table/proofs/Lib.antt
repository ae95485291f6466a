pub mod Filtering
pub mod Places
