pub mod Lists
pub mod Pages
pub mod TableLemmas
pub mod Padded
