pub mod Grid
pub mod Scale
pub mod Triangle
pub mod Arms
pub mod Piece
