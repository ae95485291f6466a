pub mod Faults
pub mod Views
pub mod Places
pub mod Readings
pub mod Laws
pub mod Examples
