pub mod Names
pub mod Poured
