pub mod MassSteps
pub mod SumSteps
pub mod Slices
pub mod Parts
