mod Collecting
mod Fitting
mod Origins
mod Same
mod Weaving
pub mod Ranges
