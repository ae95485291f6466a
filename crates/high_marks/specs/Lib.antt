pub mod HighMarks
pub mod MarkLaws
