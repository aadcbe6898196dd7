pub mod Kinds
pub mod Members
pub mod Threads
pub mod Salvaged
