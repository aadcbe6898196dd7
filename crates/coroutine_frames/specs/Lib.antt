pub mod Frames
pub mod Described
