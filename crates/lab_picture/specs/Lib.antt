pub mod Escapes
pub mod Records
pub mod Shapes
pub mod Strips
