pub mod Lists
pub mod Keyframes
pub mod Interpolation
pub mod ModelLists
pub mod States
pub mod Texts
pub mod Parts
pub mod Entries
