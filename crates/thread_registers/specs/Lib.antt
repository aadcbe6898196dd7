pub mod Names
pub mod Threads
pub mod Text
pub mod Trees
