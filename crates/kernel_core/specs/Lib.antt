pub mod EventRefines
pub mod EventParts
pub mod Standing
pub mod PlacedSections
pub mod AddedImages
pub mod Starts
