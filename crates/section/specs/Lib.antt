pub mod Limits
pub mod Model
pub mod Summary
