pub mod PieceLemmas
pub mod StepLemmas
pub mod EventLemmas
pub mod OutcomeLemmas
