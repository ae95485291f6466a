pub mod WentLemmas
pub mod SettleLemmas
mod AloneLemmas
pub mod LastLemmas
pub mod RestLemmas
mod NewestLemmas
pub mod StepLemmas
pub mod TickLemmas
pub mod EventLemmas
pub mod BootLemmas
pub mod PlacedSectionLemmas
pub mod RowPlaceLemmas
pub mod AddedImageLemmas
