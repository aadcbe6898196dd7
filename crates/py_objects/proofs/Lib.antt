pub mod Hexes
pub mod Levels
pub mod Moving
pub mod Rising
pub mod Showing
pub mod Steps
pub mod Utf
