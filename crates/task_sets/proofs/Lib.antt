pub mod Few
pub mod Gathering
pub mod Onces
pub mod SetSteps
