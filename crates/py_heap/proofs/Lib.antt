pub mod Same
pub mod Counting
