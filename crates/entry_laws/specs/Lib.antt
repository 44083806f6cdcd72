pub mod ByNumber
pub mod WholePayload
pub mod SameRecord
