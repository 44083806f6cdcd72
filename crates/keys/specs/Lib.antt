pub mod Answers
pub mod Plain
pub mod Placed
