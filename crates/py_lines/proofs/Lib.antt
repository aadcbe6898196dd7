pub mod Coding
pub mod Places
pub mod ReadEntries
pub mod ReadRuns
pub mod Readback
pub mod Varints
