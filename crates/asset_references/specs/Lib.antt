pub mod Normalize
pub mod References
pub mod Index
pub mod Behind
pub mod Answers
pub mod Run
pub mod Written
