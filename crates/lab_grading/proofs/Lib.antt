mod Judging
mod Lists
pub mod Passing
