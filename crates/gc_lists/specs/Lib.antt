pub mod Versions
pub mod Links
pub mod Turns
pub mod Rings
pub mod Walks
pub mod Heads
pub mod Lists
