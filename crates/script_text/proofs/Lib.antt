pub mod Reading
pub mod Decoding
pub mod Lines
mod Spelling
mod Plain
mod Newlines
mod Numbers
mod OwnWordLemmas
