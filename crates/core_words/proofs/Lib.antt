pub mod Accepted
pub mod Digits
pub mod Five
pub mod Images
pub mod Three
