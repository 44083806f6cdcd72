pub mod Same
pub mod Judged
pub mod Built
pub mod Told
pub mod Written
pub mod Rows
pub mod NeverWritten
pub mod Fixed
