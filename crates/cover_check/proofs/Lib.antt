pub mod Nudge
pub mod Moved
pub mod LeftOver
pub mod Insides
pub mod Divided
pub mod PutParts
pub mod Targets
pub mod OneCount
