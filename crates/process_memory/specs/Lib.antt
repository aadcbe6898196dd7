pub mod Memory
pub mod Seen
pub mod Pieces
pub mod Layers
pub mod Walk
pub mod Faults
