pub mod Refusals
pub mod Numbers
pub mod Walk
pub mod Records
pub mod Blocks
