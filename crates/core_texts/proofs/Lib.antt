pub mod Hex
pub mod Locals
pub mod Padding
pub mod Pieces
pub mod Texts
pub mod Trees
