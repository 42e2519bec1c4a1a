pub mod Gaining
pub mod Pieces
pub mod MapTexts
