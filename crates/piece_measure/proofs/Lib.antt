mod Guess
pub mod Rounding
pub mod Multiples
mod Sizes
mod Series
mod Denominator
mod Quotients
