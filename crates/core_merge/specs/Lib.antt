pub mod Addresses
pub mod CoreEntries
pub mod CoreMerges
pub mod ImageMerges
