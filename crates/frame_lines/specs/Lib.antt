pub mod Forms
pub mod Entries
pub mod Walks
pub mod Tables
