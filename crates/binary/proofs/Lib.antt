pub mod NumbersRead
pub mod Passing
pub mod RunSizes
pub mod Skips
pub mod Slices
pub mod Zero
