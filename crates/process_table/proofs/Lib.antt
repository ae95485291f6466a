pub mod Lists
pub mod Rows
pub mod Flags
pub mod Handlers
pub mod Tables
