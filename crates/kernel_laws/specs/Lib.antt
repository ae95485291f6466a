pub mod Alone
pub mod Amounts
pub mod Clock
pub mod Rest
pub mod Soundness
pub mod Undoing
