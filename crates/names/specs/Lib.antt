pub mod Names
pub mod Inserted
pub mod Tables
