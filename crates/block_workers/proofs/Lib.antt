pub mod AtPart
mod JoinedShares
mod Placing
mod Slots
