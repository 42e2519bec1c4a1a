mod Searches
mod Rows
mod NodeNumbers
mod Corners
mod Pieces
pub mod Counts
pub mod Squares
mod Found
pub mod AcceptedFaces
pub mod AcceptedNodes
