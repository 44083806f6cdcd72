pub mod Going
pub mod ByIndex
pub mod Stepping
pub mod Scanned
pub mod RisingIndices
pub mod AlongChain
