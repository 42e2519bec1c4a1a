pub mod Claimed
pub mod OneWord
pub mod Seen
pub mod Views
