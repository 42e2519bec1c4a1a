mod RightPieces
pub mod FirstFaults
pub mod Made
pub mod Makings
