pub mod Accounts
pub mod Things
pub mod Access
pub mod Worlds
pub mod Rows
pub mod Points
pub mod Files
