pub mod Views
pub mod Shelf
