pub mod Reading
pub mod Longest
pub mod Slices
