pub mod Ranges
pub mod Parts
pub mod Concatenations
pub mod Alignments
pub mod Examples
pub mod Mapped
