pub mod Groups
pub mod Keys
