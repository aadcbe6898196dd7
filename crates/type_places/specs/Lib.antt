pub mod Classes
pub mod Places
pub mod CoreTypes
pub mod ModuleTypes
pub mod Holders
