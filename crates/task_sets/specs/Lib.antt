pub mod Gathered
pub mod Named
pub mod Once
pub mod Places
pub mod Registered
pub mod Roots
pub mod Sets
pub mod Tables
