pub mod Faults
pub mod Calls
pub mod Disks
pub mod Memory
pub mod Streams
