pub mod Aligned
pub mod Walks
