pub mod Laid
pub mod Lookups
pub mod Overlays
pub mod Boundaries
pub mod OnlyPieces
pub mod Tables
pub mod Places
pub mod Files
