pub mod Known
pub mod Pieces
pub mod Search
pub mod OfProcess
pub mod Salvaged
