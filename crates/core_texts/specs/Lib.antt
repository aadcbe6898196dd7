pub mod Parts
pub mod Says
pub mod Text
pub mod Printed
pub mod Tree
