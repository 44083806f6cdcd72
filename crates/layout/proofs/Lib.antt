pub mod Steps
pub mod Slices
pub mod Inversion
pub mod Sizes
pub mod Blocks
pub mod Walks
