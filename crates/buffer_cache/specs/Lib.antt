pub mod Frames
pub mod BlockIndex
