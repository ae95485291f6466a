pub mod MoveLemmas
pub mod RunLemmas
pub mod PieceSpendingLemmas
pub mod GrantLemmas
pub mod GrantRunLemmas
pub mod SeenLemmas
pub mod PieceSeenLemmas
pub mod CommitLemmas
pub mod SeenRunLemmas
pub mod SyncEndLemmas
pub mod StreamRunLemmas
pub mod WorldLemmas
pub mod WaitLemmas
pub mod WaitCallLemmas
mod NeededPremises
