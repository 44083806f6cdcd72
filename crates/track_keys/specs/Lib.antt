pub mod Keys
pub mod MorphKeys
pub mod Tracks
pub mod Ready
pub mod Frames
pub mod Fine
