pub mod Statuses
pub mod Reading
pub mod Ends
pub mod Runs
pub mod Outcomes
