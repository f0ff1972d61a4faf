pub mod Growth
pub mod FullClaims
pub mod NamesOfLists
