pub mod Stores
pub mod Ends
