pub mod Demand3
pub mod Fixed
pub mod ReachedAndLoose
