pub mod Accepted
pub mod Faults
pub mod Fused
pub mod Places
