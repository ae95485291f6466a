pub mod Codes
pub mod Pages
pub mod Printed
pub mod Rows
