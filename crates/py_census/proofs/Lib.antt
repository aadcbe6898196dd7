pub mod Leading
pub mod Larger
pub mod Tallying
pub mod Members
pub mod Orders
pub mod Laws
pub mod Said
