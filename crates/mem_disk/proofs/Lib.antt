pub mod Blocks
pub mod Entries
pub mod SampleBlocks
pub mod Logs
