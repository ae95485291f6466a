mod Recording
mod KeptSegments
mod Charging
mod GoingOn
mod Looking
mod Asking
mod Stepping
pub mod Reading
mod Stretching
mod Seating
