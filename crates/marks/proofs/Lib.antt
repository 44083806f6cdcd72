pub mod Each
pub mod Marking
pub mod Following
pub mod Passing
pub mod Unreached
pub mod RisingChains
