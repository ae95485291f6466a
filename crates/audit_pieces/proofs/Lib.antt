pub mod Storing
pub mod Fetching
pub mod Sampling
pub mod Searching
pub mod Syncing
