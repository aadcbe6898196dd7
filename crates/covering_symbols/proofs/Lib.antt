pub mod Finding
pub mod Keys
pub mod Nearest
pub mod Sorting
pub mod Stable
pub mod Segments
