pub mod EarlyFaults
pub mod Serving
