pub mod Logs
pub mod SyncLaws
pub mod ReadLaws
pub mod WriteLaws
pub mod LeftLaws
pub mod ServesLaws
pub mod Sides
