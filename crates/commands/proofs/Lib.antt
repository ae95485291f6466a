mod FirstLine
mod Statuses
pub mod FilterLemmas
mod Parting
