pub mod Hosts
pub mod Shelves
