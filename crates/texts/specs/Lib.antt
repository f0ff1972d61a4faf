pub mod Refusals
pub mod Printable
pub mod Flats
pub mod Tokens
pub mod Lists
pub mod Texts
