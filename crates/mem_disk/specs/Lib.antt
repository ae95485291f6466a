pub use Rattle.vino_base.specs.Faults
pub use Rattle.vino_base.specs.Memory
pub mod DiskState
pub mod Calls
pub mod Joined
