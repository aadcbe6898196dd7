pub mod Repeats
pub mod Sorted
pub mod ChainLaws
pub mod Follows
pub mod FollowLaws
pub mod HolderSteps
pub mod TurnSteps
