pub mod Statuses
pub mod Ends
pub mod Contents
pub mod Outcomes
