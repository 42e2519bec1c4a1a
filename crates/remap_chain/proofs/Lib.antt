pub mod OnePair
pub mod OneField
