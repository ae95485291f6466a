pub mod RawAnswers
pub mod Talks
pub mod Claims
pub mod Boxed
pub mod Alone
pub mod Histories
pub mod Written
pub mod WrittenHistories
