pub mod Each
pub mod Lasts
pub mod Noting
pub mod Plain
