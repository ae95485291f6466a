pub mod ObjectNumbers
mod MaskLemmas
mod Used
mod NotedLemmas
mod Places
mod Views
mod ProcessMasks
mod HoldingLemmas
mod Hindering
mod TakerLemmas
