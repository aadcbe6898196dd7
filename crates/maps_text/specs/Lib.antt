pub mod Fields
pub mod Lines
pub mod Paths
pub mod Perms
pub mod Relevance
pub mod Rest
pub mod RestKept
pub mod Texts
