pub mod Faults
pub mod Grafts
pub mod Lab
pub mod Settings
pub mod Sheet
pub mod Table
pub mod Words
