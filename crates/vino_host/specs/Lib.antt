pub mod Codes
pub mod HostMachine
pub mod Plugins
pub mod Tables
pub mod HostRuns
pub mod Calls
pub mod Loaded
pub mod Sentences
