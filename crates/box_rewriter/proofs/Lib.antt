pub mod Alike
pub mod Blocks
pub mod Boxing
pub mod Faults
pub mod Fits
pub mod Offsets
pub mod Places
pub mod Simulation
