pub mod Named
pub mod Once
pub mod Filling
pub mod Counted
pub mod Rounds
pub mod Growing
