pub mod Faults
pub mod Loading
pub mod Slots
pub mod Laws
pub mod Keys
