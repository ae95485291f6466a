pub mod Audited
pub mod Grading
pub mod Tested
