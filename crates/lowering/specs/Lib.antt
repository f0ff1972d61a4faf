pub mod Starting
pub mod Sealing
