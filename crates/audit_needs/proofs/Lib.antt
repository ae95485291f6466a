pub mod NeedLists
pub mod Searching
pub mod OtherCalls
