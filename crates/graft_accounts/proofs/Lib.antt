pub mod Places
pub mod Seen
pub mod Totals
pub mod Moves
pub mod Boot
pub mod Ledgers
pub mod Stepping
pub mod Empty
