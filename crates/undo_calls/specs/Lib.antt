pub mod UndoLevels
pub mod Views
