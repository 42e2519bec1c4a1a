pub mod Answered
pub mod Contents
pub mod Costs
pub mod Fronts
mod PartValues
pub mod Reading
