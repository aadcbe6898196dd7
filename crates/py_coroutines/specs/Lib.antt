pub mod Awaits
pub mod Places
pub mod Kinds
pub mod Standings
pub mod Holders
pub mod Objects
pub mod Turns
pub mod Members
