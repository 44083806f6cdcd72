pub mod Field
pub mod Sorted
pub mod Find
pub mod Repeat
pub mod Met
pub mod Consecutive
