pub mod Heads
pub mod Kinds
pub mod Loading
pub mod Pieces
