pub mod Objects
pub mod Placing
pub mod Room
pub mod Sizes
pub mod Texts
pub mod Writes
