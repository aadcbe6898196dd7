pub mod Versions
pub mod Bases
pub mod Sizes
pub mod Blocks
pub mod Large
pub mod Censuses
pub mod Tallies
