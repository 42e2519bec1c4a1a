pub mod FinishedBlocks
pub mod InParts
pub mod InPlace
pub mod Shares
