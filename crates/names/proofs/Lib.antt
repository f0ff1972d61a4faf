pub mod Facts
pub mod Lending
pub mod Texts
