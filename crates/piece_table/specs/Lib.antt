pub mod Overlays
pub mod Laid
pub mod Lookups
pub mod Places
pub mod Files
