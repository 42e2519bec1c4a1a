pub mod Sums
mod Counted
mod Moves
