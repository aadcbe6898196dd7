pub mod HeldSteps
pub mod Attributing
