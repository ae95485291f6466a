pub mod Syntax
pub mod Words
pub mod Answers
pub mod OwnWords
