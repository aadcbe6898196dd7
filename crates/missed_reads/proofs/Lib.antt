pub mod Empty
pub mod NoFloat
pub mod Rest
