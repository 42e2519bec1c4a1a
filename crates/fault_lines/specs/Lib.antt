pub mod Code
pub mod Lines
pub mod NameParts
pub mod Faults
pub mod RowFaults
