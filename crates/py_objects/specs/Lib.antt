pub mod Kinds
pub mod Nodes
pub mod ShownTexts
pub mod Shown
pub mod Shows
