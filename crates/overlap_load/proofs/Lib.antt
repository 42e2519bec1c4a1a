pub mod OneOverlap
pub mod Reader
pub mod Values
pub mod Windowed
