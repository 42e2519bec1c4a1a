pub mod MapLength
pub mod FoundMap
mod MapFaults
pub mod ReadMaps
pub mod MapAgain
mod Numbers
