pub mod Seen
pub mod ReadStrips
