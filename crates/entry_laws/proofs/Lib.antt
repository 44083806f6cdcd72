pub mod Entries
pub mod Whole
pub mod ModelParts
pub mod Numbers
pub mod Tracks
pub mod Payloads
pub mod Handed
pub mod SameRecord
