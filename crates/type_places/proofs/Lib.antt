pub mod FlagSteps
pub mod Having
pub mod HolderSteps
pub mod ModuleSteps
