pub mod Numbers
pub mod Masks
pub mod Noted
pub mod Takers
