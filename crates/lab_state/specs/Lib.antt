pub mod Cells
pub mod Quoted
