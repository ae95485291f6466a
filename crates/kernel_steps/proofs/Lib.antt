pub mod CallLemmas
pub mod RunningLemmas
pub mod MoveLemmas
pub mod StayLemmas
pub mod AgainLemmas
pub mod OnceLemmas
pub mod PieceLemmas
pub mod FinishLemmas
pub mod StepLemmas
pub mod EndLemmas
pub mod WholeLemmas
pub mod AloneLemmas
pub mod PartLemmas
pub mod AskLemmas
pub mod StillLemmas
pub mod StretchLemmas
mod NotingLemmas
