pub mod Chain
pub mod Lines
pub mod Made
pub mod Merging
pub mod Once
pub mod Ordering
pub mod Sorted
