pub mod Names
pub mod Identifiers
pub mod Coroutines
pub mod Leaves
pub mod Writing
