pub mod Mapped
pub mod Charging
pub mod Leaving
pub mod Stepping
mod Computed
pub mod Accessing
pub mod Asking
pub mod Turning
