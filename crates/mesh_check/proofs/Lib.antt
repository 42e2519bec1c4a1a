pub mod Edges
pub mod FirstFaults
mod HandedOn
