pub mod Kind
pub mod Track
pub mod Block
pub mod Fault
