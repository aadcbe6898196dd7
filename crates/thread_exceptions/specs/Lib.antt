pub mod Links
pub mod Turns
pub mod Places
pub mod Groups
pub mod Exceptions
pub mod Discovery
pub mod Thread
pub mod Described
