pub mod Values
pub mod LeftOut
