pub mod Cuts
pub mod Ends
pub mod Members
pub mod Runs
