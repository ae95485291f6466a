pub mod Going
pub mod Lengthening
pub mod Stepping
pub mod Falling
pub mod Outer
