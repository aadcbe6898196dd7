pub mod Counts
pub mod Heads
pub mod Members
pub mod Text
pub mod Trees
pub mod Words
