pub mod Moves
pub mod Grants
pub mod Seen
pub mod SeenRuns
pub mod Streams
pub mod Waits
