pub mod Tracks
pub mod Key
pub mod Chains
