pub mod Judging
pub mod FlawsFound
pub mod Filing
pub mod Answering
pub mod Choosing
