pub mod Rest
pub mod Plain
