pub mod Marks
pub mod Rising
