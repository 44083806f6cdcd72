pub mod Answers
pub mod Run
pub mod Demand3
pub mod ReachedAndLoose
pub mod Reading
