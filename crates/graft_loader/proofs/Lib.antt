pub mod Comparing
pub mod Decoding
pub mod Masking
pub mod Slots
mod Sealed
mod Loadable
pub mod HexDigits
