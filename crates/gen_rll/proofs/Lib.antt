mod Ranges
mod Rings
pub mod Counts
