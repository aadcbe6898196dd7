pub mod PartSteps
pub mod Paths
pub mod Members
pub mod Sums
pub mod Fronts
pub mod Searches
pub mod Determined
pub mod Searching
