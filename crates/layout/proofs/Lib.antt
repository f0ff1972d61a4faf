mod Walked
pub mod NewNames
mod Calls
mod Readings
mod Refusing
mod Rooms
pub mod StartLaws
