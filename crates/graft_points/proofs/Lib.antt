pub mod Firsts
pub mod Accepted
pub mod Places
pub mod Chosen
pub mod Rows
pub mod Tuned
