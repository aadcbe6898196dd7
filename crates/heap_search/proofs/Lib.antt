pub mod KnownSteps
pub mod PieceSteps
pub mod SearchSteps
pub mod FoundLaws
pub mod SalvageSteps
