pub mod Numbers
pub mod Plain
pub mod Keys
pub mod Work
pub mod Strip
pub mod Call
pub mod Runs
pub mod Demand3
