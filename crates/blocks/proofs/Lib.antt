pub mod Places
pub mod CastSigned
pub mod Back
