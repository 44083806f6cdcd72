pub mod Built
pub mod PartLaws
pub mod Clipped
pub mod Pieces
pub mod Same
pub mod Ended
pub mod Called
