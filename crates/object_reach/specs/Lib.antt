pub mod Contents
pub mod Objects
pub mod Reach
pub mod Reading
pub mod Front
