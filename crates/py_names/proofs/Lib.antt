pub mod SearchSteps
pub mod TypedSteps
pub mod NameSteps
pub mod NameCounts
pub mod SlotBounds
