pub mod Behind
pub mod Digits
pub mod RowLines
pub mod Chunks
pub mod StripRead
pub mod StripFits
