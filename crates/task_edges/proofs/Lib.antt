pub mod Adding
pub mod Index
pub mod Searching
pub mod Sets
pub mod Answering
