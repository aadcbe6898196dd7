pub mod Said
pub mod RingLaws
pub mod Onces
pub mod RingResults
pub mod Follows
pub mod Standings
pub mod ListLaws
