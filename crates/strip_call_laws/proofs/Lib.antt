pub mod TwoRuns
pub mod Fixed
pub mod ReachedAndLoose
