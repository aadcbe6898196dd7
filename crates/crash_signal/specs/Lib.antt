pub mod Tables
pub mod Signals
pub mod Text
pub mod Trees
