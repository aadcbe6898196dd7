pub mod Version
pub mod Spelling
pub mod Fronts
pub mod Offsets
pub mod Places
pub mod Sound
pub mod Samples
