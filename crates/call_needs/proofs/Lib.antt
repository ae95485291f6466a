pub mod NeedLists
pub mod Grants
pub mod Granting
pub mod FetchLaws
pub mod BodyLaws
