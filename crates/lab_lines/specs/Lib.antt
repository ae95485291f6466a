pub mod AsWanted
pub mod Differences
pub mod Kept
pub mod Told
pub mod Wanted
pub mod Written
