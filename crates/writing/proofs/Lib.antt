pub mod OfKind
pub mod OfRecord
pub mod Sums
pub mod Measuring
pub mod Filling
pub mod OneTrack
