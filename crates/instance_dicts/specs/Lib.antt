pub mod Forms
pub mod Managed
pub mod Plain
pub mod Instances
pub mod Attributes
