pub mod Granting
pub mod GraftCalls
pub mod Continuing
pub mod StreamPieces
