pub mod Numbers
pub mod Words
pub mod Quotes
pub mod Reading
