pub mod Lines
pub mod Outside
pub mod Places
pub mod Seats
pub mod Seen
pub mod Told
pub mod Woven
pub mod Written
