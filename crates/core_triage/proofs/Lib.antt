pub mod Groupings
pub mod Growing
pub mod Keys
