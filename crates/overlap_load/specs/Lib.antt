pub mod OverlapFile
pub mod Refusals
pub mod Windows
