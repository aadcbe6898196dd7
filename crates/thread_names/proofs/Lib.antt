pub mod Plain
pub mod Searches
pub mod KeySteps
pub mod Attributes
pub mod NameSteps
