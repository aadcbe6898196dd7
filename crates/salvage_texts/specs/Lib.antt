pub mod Escape
pub mod Ends
pub mod Lines
pub mod Standings
pub mod Marks
pub mod Threads
pub mod Salvaged
