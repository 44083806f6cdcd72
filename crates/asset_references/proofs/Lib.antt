pub mod Collapsed
pub mod Cut
pub mod Behind
pub mod References
pub mod EntryByEntry
pub mod Found
pub mod Written
