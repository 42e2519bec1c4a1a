mod Takes
mod Rows
mod Rounded
mod Table
mod Search
mod Distinct
pub mod Counts
mod Members
mod Held
mod Places
mod Steps
mod Tables
mod MadeMesh
pub mod One
