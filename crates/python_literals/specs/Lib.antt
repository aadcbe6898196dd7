pub mod Quotes
pub mod Literals
pub mod Integers
pub mod Floats
