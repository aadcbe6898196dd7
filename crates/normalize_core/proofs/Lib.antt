pub mod Orders
pub mod Coverings
pub mod Meeting
pub mod Sole
pub mod TagTexts
pub mod TagReading
