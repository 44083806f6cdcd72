pub mod Lookup
pub mod Step
pub mod Walk
pub mod Scan
pub mod Chain
pub mod Positions
