pub mod Track
pub mod Vector
pub mod Camera
pub mod Light
