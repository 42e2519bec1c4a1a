pub mod Unique
mod Exactly
mod BlockSteps
mod FaceSteps
mod RunSteps
mod WholeSteps
mod RingCorners
pub mod SoundWhole
mod ClipCounts
mod NumberedBlocks
mod Stretches
