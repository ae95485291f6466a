pub mod Views
pub mod Filtered
pub mod Lines
pub mod Words
