pub mod Dump
pub mod Words
pub mod Seen
pub mod Answers
