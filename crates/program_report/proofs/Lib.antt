pub mod Answering
pub mod Samples
