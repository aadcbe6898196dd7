pub mod Parts
pub mod NoFloat
pub mod Kept
