pub mod Works
pub mod Masks
pub mod Needing
pub mod Planning
pub mod Fetching
