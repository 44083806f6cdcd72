pub mod Lines
pub mod Listing
pub mod Written
pub mod Rows
