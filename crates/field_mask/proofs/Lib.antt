mod PresentSteps
mod MaskedMasses
mod Counting
mod MaskedSlices
pub mod MaskedLaws
