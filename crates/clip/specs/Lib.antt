pub mod First
pub mod Fields
pub mod Scan
pub mod Chain
pub mod Keys
pub mod Build
pub mod Section
pub mod Matched
