pub mod DataFile
pub mod Refusals
