pub mod Spans
pub mod Curved
pub mod ModelRecords
