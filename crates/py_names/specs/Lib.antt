pub mod NamesError
pub mod Typed
pub mod Search
pub mod Names
