pub mod Items
pub mod NamePieces
pub mod Orders
pub mod Paired
