pub mod OneMap
pub mod Loaded
