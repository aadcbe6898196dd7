pub mod Lists
pub mod Keys
pub mod Words
pub mod Values
pub mod Flaws
pub mod File
pub mod FlawPath
pub mod Reading
