pub mod Salvage
pub mod Seen
