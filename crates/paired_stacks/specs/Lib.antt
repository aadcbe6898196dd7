pub mod Code
pub mod Frames
pub mod Laid
pub mod Stacks
pub mod Starts
pub mod Trees
pub mod Walked
