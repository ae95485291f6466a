pub mod Hex
pub mod LabelLemmas
pub mod Linking
pub mod Texts
pub mod Lines
