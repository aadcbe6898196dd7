pub mod Objects
pub mod Names
pub mod Places
pub mod Heaps
