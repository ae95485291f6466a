pub mod Views
pub mod Faults
pub mod State
pub mod Laws
pub mod Examples
