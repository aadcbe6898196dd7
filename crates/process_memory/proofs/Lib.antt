pub mod Ranges
pub mod Records
pub mod Reading
pub mod Founds
pub mod Stretch
pub mod Walks
pub mod WalkSums
pub mod RunParts
