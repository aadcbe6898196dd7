pub mod Found
pub mod Symbols
