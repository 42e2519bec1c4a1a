pub mod Rest
pub mod Parts
pub mod CoveredTargets
