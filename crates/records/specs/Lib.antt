pub mod Base
pub mod Pose
pub mod Curves
pub mod Keyframes
pub mod States
