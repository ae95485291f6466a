pub mod Bars
pub mod Events
pub mod Numbers
pub mod Records
pub mod Refusals
pub mod Slow
pub mod Story
