pub mod Firsts
pub mod Following
pub mod Once
pub mod Plain
pub mod Rest
