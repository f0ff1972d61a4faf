pub mod Refusals
pub mod Parts
pub mod Spans
pub mod Rows
pub mod Hosts
