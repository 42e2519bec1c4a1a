pub mod MapFile
pub mod Numbers
pub mod Refusals
