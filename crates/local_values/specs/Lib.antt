pub mod Addresses
pub mod Nodes
pub mod Types
pub mod Values
