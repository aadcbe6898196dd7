pub mod Active
pub mod Keys
pub mod Own
pub mod Lookup
pub mod Told
pub mod Trees
