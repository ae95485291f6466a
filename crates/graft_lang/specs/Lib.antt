pub mod Code
pub mod Placing
pub mod Going
pub mod Behaves
pub mod Sizes
pub mod Accepted
pub mod Writing
