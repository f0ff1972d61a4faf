pub mod Starts
pub mod Mapping
pub mod Reading
pub mod Naming
pub mod Layouts
pub mod Claims
pub mod Handed
