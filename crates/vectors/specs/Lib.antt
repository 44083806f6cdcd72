pub mod Fields
pub mod Tally
