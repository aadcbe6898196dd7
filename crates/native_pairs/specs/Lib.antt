pub mod Items
pub mod Kinds
pub mod Order
pub mod Pairs
