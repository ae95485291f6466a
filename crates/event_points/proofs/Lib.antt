pub mod HandlerLists
pub mod Granting
pub mod LeftLaws
